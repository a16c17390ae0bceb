pub mod ShortCircuit
