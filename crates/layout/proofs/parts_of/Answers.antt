-- `layout::parts_of` meets its contract: the words that it read are the definition's, and `parts_ok` says that no difference is below zero.
use Rattle.layout.proofs.Laws.{whole_length, tables_known, columns_known, cells_known, laid_is}
use native.Mathlib.Omega.{arith}
use borrow.Author.Rules.{rules}
use Rattle.layout.proofs.parts_of.Goals as goal

pub word_from_end-tables_at-requires : goal.word_from_end-tables_at-requires
word_from_end-tables_at-requires c = let l = whole_length c.requires in search rules

pub word_from_end-columns_at-requires : goal.word_from_end-columns_at-requires
word_from_end-columns_at-requires c = let l = whole_length c.requires in search rules

pub word_from_end-cells_at-requires : goal.word_from_end-cells_at-requires
word_from_end-cells_at-requires c = let l = whole_length c.requires in search rules

pub overflow_sub-result : goal.overflow_sub-result
overflow_sub-result c = let k = tables_known c.requires in omega arith

pub overflow_sub-result-2 : goal.overflow_sub-result-2
overflow_sub-result-2 c = let k = columns_known c.requires in omega arith

pub overflow_sub-result-3 : goal.overflow_sub-result-3
overflow_sub-result-3 c = let l = whole_length c.requires in omega arith

pub overflow_sub-result-4 : goal.overflow_sub-result-4
overflow_sub-result-4 c = let k = cells_known c.requires in omega arith

pub returns : goal.returns
returns c =
    laid_is c.requires c.word_from_end-tables_at.ensures.is c.word_from_end-columns_at.ensures.is
    c.word_from_end-cells_at.ensures.is
