-- A directory follows every call: what is left of a sound network with its directory is sound, and the directory is that of its rows: `follows_each`.
use Prim.{Unit, tt}
use Prim.Native.Nat.{ℕ}
use mathlib.Core.Path.{◌≡◌, refl, sym, ap, subst, ◌∙◌}
use mathlib.Core.Logic.{inl, inr}
use lib.Dec.{eqb, ltb}
use lib.IntN.{ℤ}
use lib.ListN.{length}
use Rattle.tables.specs.Net.{Net, fits}
use Rattle.tables.specs.Answers.{Out}
use Rattle.tables.specs.Rows.{with_node}
use Rattle.tables.proofs.Laws.{tested}
use Rattle.lookups.specs.Lookups.{set_node_weight}
use Rattle.rows.specs.Calls.{add_node}
use Rattle.sound.specs.Sound.{lists}
use Rattle.sound.proofs.Exactly.{small}
use Rattle.removal.specs.Removal.{remove_edge}
use Rattle.directory.specs.Directory.{directory_of, Filed, filed, register_of, RightFor}
use Rattle.directory.proofs.Laws.{right_is}
use Rattle.dirsound.specs.Check.{SoundFiled, Follows}
use Rattle.dirrows.specs.Calls.{clear_edges_filed, clear_filed}
use Rattle.dirrows.proofs.Kept.{added_right, reweighted_right, cleared_edges_right, cleared_right, add_keeps_length, set_weight_keeps_length, clear_edges_keeps_length, clear_keeps_length}
use Rattle.dirfind.proofs.Kept.{updated_right, update_keeps_length}
use Rattle.dirremoval.specs.Removal.{remove_edge_filed}
use Rattle.dirremoval.proofs.Kept.{edge_out_right, edge-length}
use Rattle.bynumber.specs.Numbers.{find_number, remove_number}
use Rattle.bynumber.proofs.Kept.{number_out_right, number-length}
use Rattle.dirclosing.proofs.Kept.{node_kept, node-length}
use Rattle.demands.specs.Demand1.{refusal}
use Rattle.demands.specs.Demand2.{SoundNet, LeftSound}
use Rattle.demands.specs.Wish1.{Same, SameOr, FollowsEach}
use Rattle.demands.proofs.Demand2.{demand_2}
use Rattle.demands.proofs.DirectorySame.{demand_2_filed}

-- a right directory of as many cells is that of the rows
pub follows_so : (f h : Filed) → SoundNet h.net → RightFor h → length h.directory ≡ length f.directory → Follows f h
follows_so f h S R l =
    record {
      sound = (S.0, S.1, R);
      directory_is =
          right_is (register_of h.net) h.net.m h.directory R (small h.net S.0)
          ∙ ap (λ c. directory_of c (register_of h.net) h.net.m) l;
    }

-- the network is left as without a directory, or as it was
same_sound : {A : Type 0} (o : Out A Net) (p : Out A Filed) → SoundNet o.after → Same o p → SoundNet p.after.net
same_sound o p S q = subst SoundNet (sym q.1) S

same_or_sound : {A : Type 0} (f : Filed) (zeros : A) (o : Out A Net) (p : Out A Filed) → SoundNet f.net → SoundNet o.after
    → SameOr (refusal zeros f) o p → SoundNet p.after.net
same_or_sound f zeros o p S T (inl (why, i, e)) = rw e S
same_or_sound f zeros o p S T (inr q) = same_sound o p T q

-- adding a node and setting its weight leave the edges' rows
module _ (f : Filed) (R : RightFor f) where
  node_added_right : (w : ℤ) → RightFor (filed (add_node f.net w).after f.directory)
  unfolding add_node with_node
  node_added_right w =
      let P : Out ℕ Net → Type 0 = λ o. RightFor (filed o.after f.directory) in
      tested P (fits f.net) _ _ R (λ t. tested P (ltb f.net.n (length f.net.weights)) _ _ R (λ l. R))

  node_set_right : (a : ℕ) (w : ℤ) → RightFor (filed (set_node_weight f.net a w).after f.directory)
  unfolding set_node_weight
  node_set_right a w =
      let P : Out Unit Net → Type 0 = λ o. RightFor (filed o.after f.directory) in
      tested P (fits f.net) _ _ R (λ t. tested P (ltb a f.net.n) _ _ R (λ l. R))

module _ (f : Filed) (S : SoundFiled f) where
  left : LeftSound f.net
  left = demand_2.left-sound f.net (S.0, S.1)

  number-sound : (r : ℕ) → SoundNet (remove_number f r).after.net
  unfolding remove_number
  number-sound r =
      let P : Out (ℕ × ℕ × ℕ) Filed → Type 0 = λ o. SoundNet o.after.net in
      let e = (find_number f r).values in
      tested P (eqb (find_number f r).number 0) _ _ (S.0, S.1) (λ z.
      same_sound (remove_edge f.net e) (remove_edge_filed f e) (left.remove-edge e) ((demand_2_filed f S).remove-edge e))

  pub follows_each : FollowsEach f
  follows_each =
      let t = S.0 in
      let R = S.2 in
      let whole : SoundNet f.net = (S.0, S.1) in
      let same = demand_2_filed f S in
      record {
        add_edge_lem =
            λ a b w. follows_so f _ (same_or_sound f 0 _ _ whole (left.add_edge_lem a b w) (same.add_edge_lem a b w)) (added_right f t R a b w) (add_keeps_length f a b w);
        update_edge_lem =
            λ a b w.
            follows_so f _ (same_or_sound f 0 _ _ whole (left.update_edge_lem a b w) (same.update_edge_lem a b w)) (updated_right f t R a b w) (update_keeps_length f a b w);
        set-edge_weight =
            λ e w.
            follows_so f _ (same_or_sound f tt _ _ whole (left.set-edge_weight e w) (same.set-edge_weight e w)) (reweighted_right f t R e w)
            (set_weight_keeps_length f e w);
        remove-edge =
            λ e. follows_so f _ (same_sound _ (remove_edge_filed f e) (left.remove-edge e) (same.remove-edge e)) (edge_out_right f (lists f.net) e t S.1 R) (edge-length f e);
        remove-number = λ r. follows_so f _ (number-sound r) (number_out_right f (lists f.net) t S.1 R r) (number-length f r);
        remove-node =
            λ a items.
            follows_so f _ (subst SoundNet (sym (same.remove-node a items).1) (left.remove-node a items)) (node_kept f (lists f.net) a items S.1 R)
            (node-length f a items);
        clear-edges = follows_so f _ (same_sound _ (clear_edges_filed f) left.clear-edges same.clear-edges) (cleared_edges_right f R) (clear_edges_keeps_length f);
        clear-all = follows_so f _ (same_sound _ (clear_filed f) left.clear-all same.clear-all) (cleared_right f R) (clear_keeps_length f);
        add_node_lem = λ w. follows_so f _ (left.add_node_lem w) (node_added_right f R w) refl;
        set-node_weight = λ a w. follows_so f _ (left.set-node_weight a w) (node_set_right f R a w) refl;
      }
