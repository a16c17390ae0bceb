use Rattle.words.proofs.Nodes.{node_in}
use Rattle.hash_join.proofs.Joining.{columns_through}
use Prim.Native.Nat.{◌-◌}
use native.Mathlib.Omega.{arith}
use mathlib.Core.Path.{refl}
use Rattle.hash_join.proofs.over_columns.Goals as goal

pub tag_at-tag-requires : goal.tag_at-tag-requires
tag_at-tag-requires c = let (h, k) = node_in c.requires.columns_at.p c.requires.columns_at.here in (omega arith, k)

pub columns-requires : goal.columns-requires
columns-requires c = c.requires.columns_at

pub returns-then-tag-eq-AGGREGATE : goal.returns-then-tag-eq-AGGREGATE
returns-then-tag-eq-AGGREGATE c = c.columns.ensures

pub returns : goal.returns
returns c = columns_through c.requires.source_count c.requires.own_start refl c.requires.column_count c.tag_at-tag.ensures c.if-tag-eq-AGGREGATE.false c.if-tag-ge-PROJECTION.false
