-- Pass 5, ShortCircuit, keeps plans. The labels that a Nothing keeps are the plan's own, or name a table and a column.
use Rattle.std.specs.Prelude.{ℕ, zero, suc, ◌+◌, ◌-◌, ◌≡◌, refl, Bool, true, false, cond, List, [], ◌∷◌, map, eqb, ltb, length}
use Rattle.std.proofs.Common.{eqb-true, ◌∙◌}
use Rattle.std.proofs.Math.Option.{Option, none, some}
use Rattle.std.proofs.lemmas.List.{length-map}
use Rattle.sql.specs.Schema.{Schema, table_of}
use Rattle.sql.specs.Expression.{Expression, constant, column, unary, binary}
use Rattle.sql.specs.Plan.{node_origin, column_labels, Label, unlabelled, unqualified, qualified, Leaf, scan, lookup, nothing, values, Other, limit, offset, order, projection, remap, aggregate, filter, other, nested_loop, hash, Node, leaf, over, join, columns, routed, group_label, item_label, items_label, remap_source, optional_label, other_label, qualifier, up_to, table_label, leaf_label, column_label}
use Rattle.sql.specs.Optimizer.{verdict, optional_verdict, is_always, remove_true, pass_through, is_noop, is_empty, remove_useless, empty_or_node, short_circuit, ShortCircuit}
use Rattle.sheet.specs.Scope.{table_columns}
use Rattle.sheet_laws.specs.Fits.{All, Optional, Reference, LabelFits, TableFits}
use Rattle.sheet_laws.specs.Content.{and_left}
use Rattle.sheet_laws.specs.Layout.{length_up_to}
use Rattle.sound.specs.Lists.{all_mapped, get_d_of}
use Rattle.sound.specs.Sound.{Within, SoundLeaf, SoundOver, Sound, Emits, Named}
use Rattle.sound.specs.Keeps.{Keeps, keeps_next, over_keeps, join_keeps}

-- ---- labels, where those of the source lie inside a text of so many bytes

module _ (bytes : ℕ) (source : ℕ → Label) (fits : (i : ℕ) → LabelFits bytes (source i)) where
  routed_fits : (e : Expression) → LabelFits bytes (routed source e)
  routed_fits (constant og v) = tt
  routed_fits (column og c) = fits c
  routed_fits (unary og o x) = tt
  routed_fits (binary og o l r) = tt

  group_fits : (es : List Expression) (i : ℕ) → LabelFits bytes (group_label source es i)
  group_fits [] i = tt
  group_fits (e ∷ es) zero = routed_fits e
  group_fits (e ∷ es) (suc i) = group_fits es i

  item_fits : (e : Expression) (l : Label) (og : ℕ) → LabelFits bytes l → LabelFits bytes (item_label source (e, l, og))
  item_fits e unlabelled og h = routed_fits e
  item_fits e (unqualified name) og h = h
  item_fits e (qualified table name) og h = h

  items_fit : (is : List (Expression × Label × ℕ)) (i : ℕ) → All (λ e. LabelFits bytes e.1) is → LabelFits bytes (items_label source is i)
  items_fit [] i h = tt
  items_fit (e ∷ es) zero h = item_fits e.0 e.1 e.2 h.0
  items_fit (e ∷ es) (suc i) h = items_fit es i h.1

  optional_fits : (o : Option ℕ) → LabelFits bytes (optional_label source o)
  optional_fits none = tt
  optional_fits (some i) = fits i

module _ (schema : Schema) (text : List ℕ) (tables : ℕ) (named : Named schema (length text)) where
  abbrev bytes : ℕ
  bytes = length text

  qualifier_fits : (alias : Option ℕ) (name : ℕ) → Optional (Reference bytes) alias → Reference bytes name → Reference bytes (qualifier alias name)
  qualifier_fits none name x h = h
  qualifier_fits (some alias) name x h = x

  table_fits : (t : ℕ) (alias : Option ℕ) (i : ℕ) → TableFits bytes tables t alias → LabelFits bytes (table_label schema t alias i)
  table_fits t alias i x = (qualifier_fits alias (table_of schema t).name x.1 (named t i).0, (named t i).1)

  leaf_label_fits : (l : Leaf) (i : ℕ) → SoundLeaf schema text tables l → LabelFits bytes (leaf_label schema l i)
  leaf_label_fits (scan t al p) i x = table_fits t al i x.1
  leaf_label_fits (lookup a t al vs) i x = table_fits t al i x.1.0
  leaf_label_fits (nothing ls) i x = get_d_of (λ l. LabelFits bytes l.0) ls i (unlabelled, 0) x tt
  leaf_label_fits (values rs) i x = tt

  other_label_fits : (n : ℕ) (o : Other) (source : ℕ → Label) (i : ℕ) → SoundOver schema text tables n (other o) → ((i : ℕ) → LabelFits bytes (source i)) → LabelFits bytes (other_label o source i)
  other_label_fits n (limit k) source i x h = h i
  other_label_fits n (offset k) source i x h = h i
  other_label_fits n (order ks) source i x h = h i
  other_label_fits n (projection is) source i x h = items_fit bytes source h is i (labels is x)
    where
      labels : (es : List (Expression × Label × ℕ)) → All (λ e. Within schema text tables n e.0 × LabelFits bytes e.1) es → All (λ e. LabelFits bytes e.1) es
      labels [] y = tt
      labels (e ∷ es) y = (y.0.1, labels es y.1)
  other_label_fits n (remap ts) source i x h = optional_fits bytes source h (remap_source 0 ts i)
  other_label_fits n (aggregate es gs) source i x h = group_fits bytes source h es i

  label_fits : (n : Node) (i : ℕ) → Sound schema text tables n → LabelFits bytes (column_label schema n i)
  label_fits (leaf og l) i x = leaf_label_fits l i x
  label_fits (over og (filter e) s) i x = label_fits s i x.0
  label_fits (over og (other o) s) i x = other_label_fits (columns schema s) o (column_label schema s) i x.1 (λ k. label_fits s k x.0)
  label_fits (join og outer j a b) i x = go (ltb i (columns schema a)) (label_fits a i x.0) (label_fits b (i - columns schema a) x.1.0)
    where
      go : (t : Bool) → LabelFits bytes (column_label schema a i) → LabelFits bytes (column_label schema b (i - columns schema a))
          → LabelFits bytes (elim t [ true ↦ column_label schema a i | false ↦ column_label schema b (i - columns schema a) ])
      go true p q = p
      go false p q = q

  -- ---- nodes

  abbrev E : ℕ → Node → Type 0
  E = Emits schema text tables

  remove_true_keeps : (Q : Expression → Type 0) (p : Option Expression) → Optional Q p → Optional Q (remove_true p)
  remove_true_keeps Q p x = go (is_always (optional_verdict p))
    where
      go : (b : Bool) → Optional Q (cond b none p)
      go true = tt
      go false = x

  useless_keeps : Keeps schema text tables (remove_useless schema)
  useless_keeps (leaf og (scan t al p)) x = ((remove_true_keeps (Within schema text tables (table_columns schema t)) p x.0, x.1), refl)
  useless_keeps (leaf og (lookup a t al vs)) x = (x, refl)
  useless_keeps (leaf og (nothing ls)) x = (x, refl)
  useless_keeps (leaf og (values rs)) x = (x, refl)
  useless_keeps (over og (filter e) s) x = go (is_always (verdict e))
    where
      go : (b : Bool) → E (columns schema s) (cond b s (over og (filter e) s))
      go true = (x.0, refl)
      go false = (x, refl)
  useless_keeps (over og (other (limit k)) s) x = (x, refl)
  useless_keeps (over og (other (offset k)) s) x = (x, refl)
  useless_keeps (over og (other (order ks)) s) x = (x, refl)
  useless_keeps (over og (other (projection is)) s) x = go (is_noop schema is s) refl
    where
      go : (b : Bool) → is_noop schema is s ≡ b → E (length is) (cond b s (over og (other (projection is)) s))
      go true h = (x.0, eqb-true (columns schema s) (length is) (and_left (eqb (columns schema s) (length is)) (pass_through 0 is) h))
      go false h = (x, refl)
  useless_keeps (over og (other (remap ts)) s) x = (x, refl)
  useless_keeps (over og (other (aggregate es gs)) s) x = (x, refl)
  useless_keeps (join og outer (nested_loop p) a b) x =
      ((x.0, (x.1.0, remove_true_keeps (Within schema text tables (columns schema a + columns schema b)) p x.1.1)), refl)
  useless_keeps (join og outer (hash i j) a b) x = (x, refl)

  empty_keeps : (b : Bool) → Keeps schema text tables (empty_or_node schema b)
  empty_keeps true n x = (
    labels_marked (column_labels schema n) (all_mapped (column_label schema n) (LabelFits bytes) (λ i. label_fits n i x) (up_to 0 (columns schema n))),
    length-map (column_labels schema n) (λ (l : Label). (l, node_origin n)) ∙ length-map (up_to 0 (columns schema n)) (column_label schema n) ∙ length_up_to 0 (columns schema n),
  )
    where
      labels_marked : (ls : List Label) → All (LabelFits bytes) ls → All (λ (l : Label × ℕ). LabelFits bytes l.0) (map (λ (l : Label). (l, node_origin n)) ls)
      labels_marked [] y = tt
      labels_marked (l ∷ ls) y = (y.0, labels_marked ls y.1)
  empty_keeps false n x = (x, refl)

  pub one_keeps : Keeps schema text tables (short_circuit schema)
  one_keeps n x =
      let m = remove_useless schema n in
      keeps_next schema text tables (empty_or_node schema (is_empty m)) (empty_keeps (is_empty m)) m (useless_keeps n x)

  pub circuit_keeps : Keeps schema text tables (ShortCircuit schema)
  circuit_keeps (leaf og l) x = one_keeps (leaf og l) x
  circuit_keeps (over og o s) x =
      keeps_next schema text tables (short_circuit schema) one_keeps (over og o (ShortCircuit schema s))
      (over_keeps schema text tables og o s (ShortCircuit schema s) x.1 (circuit_keeps s x.0))
  circuit_keeps (join og outer j a b) x =
      keeps_next schema text tables (short_circuit schema) one_keeps (join og outer j (ShortCircuit schema a) (ShortCircuit schema b))
      (join_keeps schema text tables og outer j (columns schema a) (columns schema b) (ShortCircuit schema a) (ShortCircuit schema b) x.1.1
      (circuit_keeps a x.0) (circuit_keeps b x.1.0))
