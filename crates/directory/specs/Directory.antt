-- A directory beside a network: cell r holds the row that bears register number r, or `END` for none. It may have any length.
use Rattle.std.specs.Prelude.{ℕ, zero, suc, ◌<◌, ◌≡◌, Bool, true, cond, ◌&&◌, ◌||◌, List, eqb, ltb, length, get_or, set, replicate}
use Rattle.index.specs.Index.{END, is_end}
use Rattle.tables.specs.Net.{Net}
use Rattle.tables.specs.Answers.{Out, out}

-- the number that row e bears
abbrev pub register_in : List ℕ → ℕ → ℕ
register_in registers e = get_or registers e 0

-- the entry of number r; where the directory has no cell for it, none
abbrev pub entry : List ℕ → ℕ → ℕ
entry directory r = get_or directory r END

-- every entry is none
abbrev pub none : List ℕ → List ℕ
none directory = replicate (length directory) END

-- a directory is right for m rows: the entry of each row's number names the row, and an entry that is not none names a row that bears its number
pub record Right (number : ℕ → ℕ) (m : ℕ) (directory : List ℕ) : Type 0 where
  pub named : (e : ℕ) → e < m → entry directory (number e) ≡ e
  pub borne : (r : ℕ) → (entry directory r ≡ END → ⊥) → (entry directory r < m) × (number (entry directory r) ≡ r)

-- the directory of m rows: every row is entered in turn
unfoldable pub directory_of : ℕ → (ℕ → ℕ) → ℕ → List ℕ
directory_of cells number zero = replicate cells END
directory_of cells number (suc e) = set (directory_of cells number e) (number e) e

-- a test holds of each number below x
unfoldable pub every : (ℕ → Bool) → ℕ → Bool
every test zero = true
every test (suc x) = every test x && test x

-- row x is in use and bears number r
abbrev pub bears : (ℕ → ℕ) → (m x r : ℕ) → Bool
bears number m x r = ltb x m && eqb (number x) r

-- the entry of row e's number names it
abbrev pub row_named : (ℕ → ℕ) → List ℕ → ℕ → Bool
row_named number directory e = eqb (entry directory (number e)) e

-- an entry x of number r is none, or names a row that bears r
abbrev pub stands : (ℕ → ℕ) → (m x r : ℕ) → Bool
stands number m x r = is_end x || bears number m x r

-- the entry that the directory has for r does
abbrev pub entry_stands : (ℕ → ℕ) → ℕ → List ℕ → ℕ → Bool
entry_stands number m directory r = stands number m (entry directory r) r

-- the test for a right directory: each row is named, and each entry stands
unfoldable pub rows_named : (ℕ → ℕ) → ℕ → List ℕ → Bool
rows_named number m directory = every (row_named number directory) m

unfoldable pub entries_stand : (ℕ → ℕ) → ℕ → List ℕ → Bool
entries_stand number m directory = every (entry_stands number m directory) (length directory)

unfoldable pub is_right : (ℕ → ℕ) → ℕ → List ℕ → Bool
is_right number m directory = rows_named number m directory && entries_stand number m directory

-- the directory once row e, which bore number w, is out and m rows are left: w stands in none, and the row that is e now, if one is, is entered
unfoldable pub followed : (ℕ → ℕ) → (m w e : ℕ) → List ℕ → List ℕ
followed number m w e directory =
    cond (ltb e m) (set (set directory w END) (number e) e) (set directory w END)

-- a network and its directory
pub record Filed : Type 0 where
  pub net : Net
  pub directory : List ℕ

abbrev pub filed : Net → List ℕ → Filed
filed g directory = record { net = g; directory = directory }

-- the number that row e of a network bears
abbrev pub register_of : Net → ℕ → ℕ
register_of g = register_in g.registers

-- its directory is right for it, and the test for that
abbrev pub RightFor : Filed → Type 0
RightFor f = Right (register_of f.net) f.net.m f.directory

abbrev pub is_right_for : Filed → Bool
is_right_for f = is_right (register_of f.net) f.net.m f.directory

-- what a call without a directory tells and leaves decides first; where it is served, the rest
abbrev pub beside : {A : Type 0} → Filed → Out A Net → Out A Filed → Out A Filed
beside f o rest = cond (eqb o.answer.number 0) rest (out o.answer (filed o.after f.directory))

-- the entry of a network's row names it
abbrev pub named : Filed → ℕ → Bool
named f e = row_named (register_of f.net) f.directory e
