-- Edges added, reweighted and cleared in a network with a directory: refused as without one; where that call is served, what stands against the number.
use Prim.{Unit, tt}
use Rattle.std.specs.Prelude.{ℕ, ◌||◌, List, eqb, ltb, length, set, Result, Ok, Err}
use Rattle.index.specs.declared.Refusal.{Refusal}
use Rattle.index.specs.declared.Refusal.TheVariants.{Broken, Taken, Beyond}
use Rattle.index.specs.Index.{END, is_end}
use Rattle.tables.specs.Net.{Net}
use Rattle.tables.specs.Answers.{Out, out, refused, unless}
use Rattle.lookups.specs.Lookups.{set_edge_weight}
use Rattle.rows.specs.Calls.{add_edge, clear_edges, clear}
use Rattle.directory.specs.Directory.{entry, none, row_named, Filed, filed, register_of, beside}

-- whether row e may have number w: 12 where w is not below the length, 11 where its entry names another row; a new row is claimed for as `END`
unfoldable pub claimed : List ℕ → (w e : ℕ) → Result Unit Refusal
claimed directory w e =
    unless (ltb w (length directory)) (Err Beyond)
    (unless (is_end (entry directory w) || eqb (entry directory w) e) (Err Taken)
    (Ok tt))

-- a claim that is refused refuses the call
abbrev pub if_free : {A : Type 0} → Filed → A → Result Unit Refusal → Out A Filed → Out A Filed
if_free f zeros (Ok u) rest = rest
if_free f zeros (Err why) rest = out (refused why zeros) f

-- a new row, which a call without a directory has told, is entered under number w: 12, 11
abbrev pub entered : Filed → ℕ → Out ℕ Net → Out ℕ Filed
entered f w o = if_free f 0 (claimed f.directory w END) (out o.answer (filed o.after (set f.directory w o.answer.values)))

-- adding an edge: 1, 2, 3, then 12, 11
unfoldable pub add_edge_filed : Filed → ℕ → ℕ → ℕ → Out ℕ Filed
add_edge_filed f a b w =
    let o = add_edge f.net a b w in
    beside f o (entered f w o)

-- whether row e may have number w in place of its own: 6 where its entry does not name it, then 12, 11
abbrev pub reclaimed : (ℕ → ℕ) → List ℕ → (e w : ℕ) → Result Unit Refusal
reclaimed number directory e w = unless (row_named number directory e) (Err Broken) (claimed directory w e)

-- its entry moves; the old one goes first, so that a row keeps its entry under a number that it has already
abbrev pub reentered : (ℕ → ℕ) → List ℕ → (e w : ℕ) → List ℕ
reentered number directory e w = set (set directory (number e) END) w e

-- row e, which a call without a directory has given number w: 6, 12, 11
abbrev pub reweighed : {A : Type 0} → Filed → A → (e w : ℕ) → Out A Net → Out A Filed
reweighed f zeros e w o =
    if_free f zeros (reclaimed (register_of f.net) f.directory e w) (out o.answer (filed o.after (reentered (register_of f.net) f.directory e w)))

-- setting an edge's number: 1, 4, then 6, 12, 11
unfoldable pub set_edge_weight_filed : Filed → ℕ → ℕ → Out Unit Filed
set_edge_weight_filed f e w =
    let o = set_edge_weight f.net e w in
    beside f o (reweighed f tt e w o)

-- the clears: 1; every entry becomes none
abbrev pub all_out : Filed → Out Unit Net → Out Unit Filed
all_out f o = beside f o (out o.answer (filed o.after (none f.directory)))

unfoldable pub clear_edges_filed : Filed → Out Unit Filed
clear_edges_filed f = all_out f (clear_edges f.net)

unfoldable pub clear_filed : Filed → Out Unit Filed
clear_filed f = all_out f (clear f.net)
