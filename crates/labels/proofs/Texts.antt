-- Laws on the names of tables and columns.
use Prim.Native.Nat.{ℕ, ◌+◌, ◌*◌, ◌≤◌, ◌<◌}
use native.Mathlib.Omega.{arith}
use mathlib.Core.Bool.{Bool, true, false}
use mathlib.Core.Path.{◌≡◌, refl, sym, ap, ap₂, ◌∙◌}
use mathlib.Core.List.{List}
use lib.ListN.{length}
use Rattle.std.proofs.Common.{Option as CodeOption, Some, None}
use Rattle.std.specs.Option.{is_some, unwrap_or}
use Rattle.value.specs.Meaning.{bytes_at}
use Rattle.sql.specs.Schema.{Column, Table, table_of}
use Rattle.sql.specs.Plan.{Node, table_label, column_label, qualified}
use Rattle.sql.specs.Plan as plan
use Rattle.sheet.specs.Bytes.{word}
use Rattle.records.specs.Records.{table_name, first_column, table_width, RecordsAt}
use Rattle.records.proofs.Laws.{table_said, column_said, column_none, tables_said}
use Rattle.labels.specs.declared.Label.{Label}
use Rattle.labels.specs.declared.Label.TheVariants.{Qualified}
use Rattle.labels.specs.declared.Traced.{Traced}
use Rattle.labels.specs.declared.Traced.TheVariants as traced
use Rattle.labels.specs.Labels.{alias_of, alias_if, named, Traces}
use Rattle.labels.specs.Names.{qualifier_text, ColumnName, TableLabel, ColumnLabel}

-- ---- names

-- Each column of a table has a record.
pub record_there : {records columns : List ℕ} → RecordsAt records columns → (t i : ℕ) → i < table_width records t
    → (first_column records t + i) * 16 + 16 ≤ length columns
record_there n t i h = omega (arith, n.given.inside t)

pub records_few : {records columns : List ℕ} → RecordsAt records columns → length columns ≤ 4096
records_few n = n.given.few

module _ (records columns : List ℕ) (t i : ℕ) where
  pub name_none : table_width records t ≤ i → ColumnName records columns t i 0
  name_none h schema n = ap (λ (c : Column). c.name) (sym (column_none n t i h))

  pub name_some : i < table_width records t → {first r : ℕ} → first ≡ first_column records t → r ≡ word columns ((first + i) * 16) → ColumnName records columns t i r
  name_some h {first} {r} e f schema n =
      f ∙ ap (λ (k : ℕ). word columns ((k + i) * 16)) e ∙ ap (λ (c : Column). c.name) (sym (column_said n t i h))

-- ---- labels

pub labels_table : {records columns : List ℕ} (t : ℕ) (alias : CodeOption ℕ) (i : ℕ) {name q r : ℕ} → name ≡ table_name records t
    → q ≡ plan.qualifier (alias_of alias) name → ColumnName records columns t i r → TableLabel records columns t alias i (Qualified q r)
labels_table t alias i {q = q} {r = r} e f g schema n =
    let k = e ∙ ap (λ (x : Table). x.name) (sym (table_said n t)) in
    ap (λ (m : ℕ). qualified m r) (f ∙ ap (plan.qualifier (alias_of alias)) k)
    ∙ ap (λ (m : ℕ). qualified (plan.qualifier (alias_of alias) (table_of schema t).name) m) (g schema n)

pub qualifier_or : (alias : CodeOption ℕ) (name : ℕ) → unwrap_or alias name ≡ plan.qualifier (alias_of alias) name
qualifier_or None name = refl
qualifier_or (Some alias) name = refl

-- The same of a flag that says whether there is an alias, and the alias beside it, or 0.
pub qualifier_parts : (alias : CodeOption ℕ) (name : ℕ) {aliased : Bool} {a : ℕ} → aliased ≡ is_some alias → a ≡ unwrap_or alias 0
    → plan.qualifier (alias_if aliased a) name ≡ unwrap_or alias name
qualifier_parts None name {a = a} e f = ap (λ (t : Bool). plan.qualifier (alias_if t a) name) e
qualifier_parts (Some alias) name e f = ap₂ (λ (t : Bool) (n : ℕ). plan.qualifier (alias_if t n) name) e f

module _ {records columns s : List ℕ} {lo hi i : ℕ} {x : Traced} (f : Traces records s lo hi i x) where
  pub label_said_here : (l : Label) → x ≡ traced.Said l → ColumnLabel records columns s lo hi i l
  label_said_here l e schema p n u = ap (named schema) (sym e) ∙ f schema p (tables_said n) u

  pub label_of_column : (t : ℕ) (alias : CodeOption ℕ) (c : ℕ) → x ≡ traced.Column t alias c → (r : Label)
      → TableLabel records columns t alias c r → ColumnLabel records columns s lo hi i r
  label_of_column t alias c e r g schema p n u = g schema n ∙ ap (named schema) (sym e) ∙ f schema p (tables_said n) u

-- The text of the chosen reference is the chosen text.
pub chosen_text : (text : List ℕ) (aliased : Bool) (alias name : ℕ)
    → bytes_at text (plan.qualifier (alias_if aliased alias) name) ≡ qualifier_text aliased (bytes_at text alias) (bytes_at text name)
chosen_text text true alias name = refl
chosen_text text false alias name = refl
