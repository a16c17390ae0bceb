use Rattle.conjuncts.proofs.Appending.{joinable_mapped}
use Rattle.sql.specs.Expression.{replace_column}
use Rattle.copied_lookups.proofs.Copying.{copies_nothing, some_there, place_there, copies_missing, copies_found}
use Rattle.copied_lookups.proofs.copy_last.Goals as goal

pub returns-then-lo-hi : goal.returns-then-lo-hi
returns-then-lo-hi c = copies_nothing c.args.origin c.args.column c.args.to c.if-lo-hi.true

pub last_lookup-requires : goal.last_lookup-requires
last_lookup-requires c = some_there c.if-lo-hi.false c.requires.optional_at

pub returns-in_default : goal.returns-in_default
returns-in_default c = copies_missing c.if-lo-hi.false c.args.column c.last_lookup.ensures c.args.origin c.in_default.is c.args.to

pub replace_column-m-requires : goal.replace_column-m-requires
replace_column-m-requires c = place_there c.if-lo-hi.false c.args.column c.last_lookup.ensures c.in-Some.is c.requires.optional_at

pub and_over-requires : goal.and_over-requires
and_over-requires c = joinable_mapped c.requires.gathered_at c.replace_column-m.auto.d (place_there c.if-lo-hi.false c.args.column c.last_lookup.ensures c.in-Some.is c.requires.optional_at) (replace_column c.args.column c.args.to) c.replace_column-m.ensures

pub returns : goal.returns
returns c = copies_found c.if-lo-hi.false c.args.column c.last_lookup.ensures c.args.origin c.in-Some.is c.replace_column-m.auto.d c.args.to c.replace_column-m.ensures c.and_over.ensures
