-- The theorems of specs/Law.antt, from those of the five passes.
use Prim.Native.Nat.{zero, suc}
use mathlib.Core.Path.{◌≡◌, refl, sym, ap}
use mathlib.Core.List.{List, [], ◌∷◌}
use Rattle.sql.specs.Schema.{Schema}
use Rattle.sql.specs.Plan.{Node}
use Rattle.sql.specs.Answer.{done}
use Rattle.sql.specs.Optimizer.{Optimizer, in_turn}
use Rattle.sql.specs.Optimizer as Defined
use Rattle.literal.specs.Rust.{Run, try_fold}
use Rattle.literal.specs.Value.{document_01}
use Rattle.literal.specs.Optimizer.{ConstantFolding, FilterPushdown, IndexLookup, HashJoin, ShortCircuit}
use Rattle.literal.specs.Law.{answer, without_place, PassesLiteral, PassLiteral, FiveLiteral}
use Rattle.literal.proofs.Folding.{folding_same, says_bind}
use Rattle.literal.proofs.Pushdown.{pushdown_same}
use Rattle.literal.proofs.Passes.{index_same, hash_same, circuit_same}

pub passes_literal : (schema : Schema) (n : Node) → PassesLiteral schema n
passes_literal schema n = record {
  constant_folding = λ first. folding_same first n;
  filter_pushdown = pushdown_same schema n;
  index_lookup = index_same schema n;
  hash_join = hash_same schema n;
  short_circuit = circuit_same schema n;
}

abbrev Same : Optimizer → (Node → Run Node) → Type 0
Same f g = (n : Node) → without_place (f n) ≡ answer (g n)

module _ (schema : Schema) where
  folding : Same (Defined.ConstantFolding 0) (ConstantFolding document_01)
  folding = folding_same 0

  pushdown : Same (λ n. done (Defined.FilterPushdown schema n)) (FilterPushdown schema)
  pushdown n = ap answer (sym (pushdown_same schema n))

  lookup : Same (λ n. done (Defined.IndexLookup schema n)) (IndexLookup document_01 schema)
  lookup n = ap answer (sym (index_same schema n))

  hash : Same (λ n. done (Defined.HashJoin schema n)) (HashJoin document_01 schema)
  hash n = ap answer (sym (hash_same schema n))

  circuit : Same (λ n. done (Defined.ShortCircuit schema n)) (ShortCircuit document_01 schema)
  circuit n = ap answer (sym (circuit_same schema n))

pub pass_literal : PassLiteral
pass_literal schema zero n = refl
pass_literal schema (suc zero) n = folding schema n
pass_literal schema (suc (suc zero)) n = pushdown schema n
pass_literal schema (suc (suc (suc zero))) n = lookup schema n
pass_literal schema (suc (suc (suc (suc zero)))) n = hash schema n
pass_literal schema (suc (suc (suc (suc (suc zero))))) n = circuit schema n
pass_literal schema (suc (suc (suc (suc (suc (suc k)))))) n = refl

-- `try_fold`, over lists that begin with two optimizers that do the same
abbrev in_rust : List (Node → Run Node) → Node → Run Node
in_rust gs n = try_fold (λ node opt. opt node) n gs

turn : (f : Optimizer) (g : Node → Run Node) (fs : List Optimizer) (gs : List (Node → Run Node)) → Same f g → Same (in_turn fs) (in_rust gs) → Same (in_turn (f ∷ fs)) (in_rust (g ∷ gs))
turn f g fs gs h rest n = says_bind (f n) (g n) (in_turn fs) (in_rust gs) (h n) rest

pub five_literal : FiveLiteral
five_literal schema =
    turn (Defined.ConstantFolding 0) (ConstantFolding document_01) (push ∷ look ∷ join ∷ cut ∷ []) (FilterPushdown schema ∷ IndexLookup document_01 schema ∷ HashJoin document_01 schema ∷ ShortCircuit document_01 schema ∷ []) (folding schema)
    (turn push (FilterPushdown schema) (look ∷ join ∷ cut ∷ []) (IndexLookup document_01 schema ∷ HashJoin document_01 schema ∷ ShortCircuit document_01 schema ∷ []) (pushdown schema)
    (turn look (IndexLookup document_01 schema) (join ∷ cut ∷ []) (HashJoin document_01 schema ∷ ShortCircuit document_01 schema ∷ []) (lookup schema)
    (turn join (HashJoin document_01 schema) (cut ∷ []) (ShortCircuit document_01 schema ∷ []) (hash schema)
    (turn cut (ShortCircuit document_01 schema) [] [] (circuit schema) (λ n. refl)))))
  where
    push : Optimizer
    push n = done (Defined.FilterPushdown schema n)

    look : Optimizer
    look n = done (Defined.IndexLookup schema n)

    join : Optimizer
    join n = done (Defined.HashJoin schema n)

    cut : Optimizer
    cut n = done (Defined.ShortCircuit schema n)
