pub mod Arity
