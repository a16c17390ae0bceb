-- `node_scope::sources` meets its contract: the nodes with the tags of a range have equally many. Assumes nothing.
use native.Mathlib.Omega.{arith}
use Rattle.node_scope.proofs.Answers.{one_source, two_sources, none_between, none_behind}
use Rattle.node_scope.proofs.sources.Goals as goal

pub returns-in-52 : goal.returns-in-52
returns-in-52 c = two_sources _ c.in-52.is

pub returns-in-50 : goal.returns-in-50
returns-in-50 c = one_source _ (grind arith) (grind arith) (λ e. grind arith) (λ e. grind arith) (λ e. grind arith) (λ e. grind arith) (λ e. grind arith)

pub returns-in-50-2 : goal.returns-in-50-2
returns-in-50-2 c = one_source _ (grind arith) (grind arith) (λ e. grind arith) (λ e. grind arith) (λ e. grind arith) (λ e. grind arith) (λ e. grind arith)

pub returns-in-50-3 : goal.returns-in-50-3
returns-in-50-3 c = one_source _ (grind arith) (grind arith) (λ e. grind arith) (λ e. grind arith) (λ e. grind arith) (λ e. grind arith) (λ e. grind arith)

pub returns-in-60 : goal.returns-in-60
returns-in-60 c = one_source _ (grind arith) (grind arith) (λ e. grind arith) (λ e. grind arith) (λ e. grind arith) (λ e. grind arith) (λ e. grind arith)

pub returns-in_default-2 : goal.returns-in_default-2
returns-in_default-2 c = none_between _ (grind arith) (grind arith) (λ e. grind arith) (λ e. grind arith) (λ e. grind arith)

pub returns-in_default-3 : goal.returns-in_default-3
returns-in_default-3 c = none_behind _ (omega (arith, c.in_default))
