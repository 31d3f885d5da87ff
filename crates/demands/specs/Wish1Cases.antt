-- Wish 1 worked out by hand: network A, whose rows 0 to 3 bear the numbers 10 to 13, with a directory of 15 cells.
use Prim.{tt}
use Rattle.std.specs.Prelude.{ℕ, ◌≡◌, List, [], ◌∷◌, ◌++◌, pos, replicate, set}
use Rattle.index.specs.Index.{END}
use Rattle.tables.specs.Answers.{out, done}
use Rattle.tables.proofs.NetworkA.{network_a}
use Rattle.sound.specs.Check.{told_checked}
use Rattle.directory.specs.Directory.{Filed, filed}
use Rattle.dirsound.specs.Check.{checked_filed}
use Rattle.dirrows.specs.Calls.{add_edge_filed, set_edge_weight_filed}
use Rattle.dirremoval.specs.Removal.{remove_edge_filed}
use Rattle.bynumber.specs.Numbers.{find_number, remove_number}
use Rattle.dirclosing.specs.Closing.{remove_node_filed}
use Rattle.demands.specs.Demand1.{refusal}
use Rattle.demands.specs.Starred.{after_x0, after_x3, after_d0}

-- ten numbers that no row bears, then these cells
abbrev pub cells : List ℕ → List ℕ
cells last = replicate 10 END ++ last

abbrev pub filed_a : Filed
filed_a = filed network_a (cells (0 ∷ 1 ∷ 2 ∷ 3 ∷ END ∷ []))

-- row 3 is free, and so is number 13
abbrev pub filed_x3 : Filed
filed_x3 = filed after_x3 (cells (0 ∷ 1 ∷ 2 ∷ END ∷ END ∷ []))

-- number 9 stands in row 2, which bears 12; or in row 7, which is not there
abbrev pub strayed : ℕ → Filed
strayed row = filed network_a (set filed_a.directory 9 row)

pub record Wish1Cases : Type 0 where
  -- found: row 3 bears 13; no row bears 9; 15 has no cell; what stands at 9 does not bear it
  pub found : find_number filed_a 13 ≡ done 3
  pub nothing : (find_number filed_a 9).number ≡ 5
  pub beyond : (find_number filed_a 15).number ≡ 12
  pub stray : (find_number (strayed 2) 9).number ≡ 6
  pub nowhere : (find_number (strayed 7) 9).number ≡ 6
  -- the check: eight rows read; and 6, incoming, n+1
  pub sound : told_checked (checked_filed filed_a) ≡ done (8, 0, 0)
  pub unsound : told_checked (checked_filed (strayed 2)) ≡ record { number = 6; values = (0, 1, 4) }
  -- an add: 2 in a full table before 12 and 11; 12 before 11; 11; then row 3 is entered
  pub full : add_edge_filed filed_a 1 2 15 ≡ refusal 0 filed_a 2
  pub too_high : add_edge_filed filed_x3 1 2 15 ≡ refusal 0 filed_x3 12
  pub borne : add_edge_filed filed_x3 1 2 10 ≡ refusal 0 filed_x3 11
  pub added : (add_edge_filed filed_x3 1 2 13).after.directory ≡ cells (0 ∷ 1 ∷ 2 ∷ 3 ∷ END ∷ [])
  -- a weight: another row's number is 11, the own stays, a free one moves the entry
  pub other : set_edge_weight_filed filed_a 0 11 ≡ refusal tt filed_a 11
  pub own : set_edge_weight_filed filed_a 0 10 ≡ out (done tt) filed_a
  pub moved : (set_edge_weight_filed filed_a 0 14).after.directory ≡ cells (END ∷ 1 ∷ 2 ∷ 3 ∷ 0 ∷ [])
  -- X 0, also by its number: row 3 becomes row 0, and number 13 follows
  pub out_0 : remove_edge_filed filed_a 0 ≡ out (done (10, 3, 2)) (filed after_x0 (cells (END ∷ 1 ∷ 2 ∷ 0 ∷ END ∷ [])))
  pub out_10 : remove_number filed_a 10 ≡ remove_edge_filed filed_a 0
  -- D 0: rows 2 and 0 go, what was row 3 becomes row 0
  pub closed_0 : remove_node_filed filed_a 0 (replicate 4 0)
      ≡ out (done (pos 5, 2, 2)) (filed after_d0 (cells (END ∷ 1 ∷ END ∷ 0 ∷ END ∷ [])), 12 ∷ 10 ∷ 0 ∷ 0 ∷ [])
  pub not_closed : remove_node_filed (strayed 2) 0 (replicate 4 0) ≡ refusal (pos 0, 0, 0) (strayed 2, replicate 4 0) 6
