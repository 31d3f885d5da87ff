-- A node stripped of its edges. The weights given are those that a walk around the node gives before, `given_are`; the rows read are those that the
-- lists say, `strip-rows`, `strip-most`; the network left fits, is sound and has no edge at the node, `strip-fits`, `strip-sound`, `strip-edges`,
-- `strip-bare`; and its edges are the others in their order, `strip-follows`.
use Prim.Native.Nat.{ℕ, ◌+◌, ◌*◌, ◌-◌, ◌≤◌, ◌<◌}
use mathlib.Core.Path.{◌≡◌, refl, sym, ap, ap₂, ◌∙◌}
use mathlib.Core.Bool.{Bool, true, not, ◌&&◌}
use mathlib.Core.List.{List, [], ◌++◌, map}
use native.Mathlib.Nat.{mul_comm, mul_assoc, add-mul}
use native.Mathlib.Omega.{arith}
use lib.Dec.{eqb}
use lib.ListN.{length, length-map, length-append}
use Rattle.index.specs.Index.{END}
use Rattle.tables.specs.Net.{Net, fits}
use Rattle.lists.specs.declared.Item.TheVariants.{Weight}
use Rattle.lists.specs.declared.Spot.TheVariants.{Head}
use Rattle.lists.specs.Walk.{link_at, filter, rows_from, around}
use Rattle.lists.proofs.Chains.{chain_length}
use Rattle.sound.specs.Sound.{end_at, Sound}
use Rattle.sound.proofs.Exactly.{small, two, lists_are}
use Rattle.removal.specs.Lists.{Longest, Freed}
use Rattle.removal.proofs.Freed.{freed_on}
use Rattle.stripping.specs.Heads.{Strip, strip, emptied, stripped}
use Rattle.stripping.specs.Lists.{Listing, listing, list_out, list_read}
use Rattle.stripping.proofs.Others.{map-moved, filter-all, in_filter}
use Rattle.stripping.proofs.Follow.{register, Held, held, Follows, follow, none_longer, by_members, inside}
use Rattle.stripping.proofs.Emptying.{Emptied, emptying}

spread : (d e p : ℕ) → 3 * (d + e) * p ≡ d * (3 * p) + e * (3 * p)
spread d e p = ap (λ x. x * p) (mul_comm 3 (d + e)) ∙ mul_assoc (d + e) 3 p ∙ add-mul d e (3 * p)

list_within : (g : Net) (N : Listing) → Held g N → (k c : ℕ) → k < 2 → c < g.n → length (N.list k c) ≤ g.m
list_within g N H k c h l = chain_length (link_at g k) g.m (small g H.fit) (Head c) (N.list k c) ((by_members g N H k h).chain c l)

-- node a is stripped: first its outgoing list, then its incoming one
abbrev pub outgoing_out : Net → ℕ → Strip
outgoing_out g a = emptied g.m 0 a (strip g [] 0)

abbrev pub less_outgoing : Net → (ℕ → ℕ → List ℕ) → ℕ → Listing
less_outgoing g ls a = list_out 0 a (listing g ls)

abbrev pub less_both : Net → (ℕ → ℕ → List ℕ) → ℕ → Listing
less_both g ls a = list_out 1 a (less_outgoing g ls a)

module _ (g : Net) (ls : ℕ → ℕ → List ℕ) (a : ℕ) (f : fits g ≡ true) (S : Sound g ls) (la : a < g.n) where
  pub first : Emptied 0 a g [] 0 (listing g ls) (less_outgoing g ls a) (list_read 0 a (listing g ls)) (outgoing_out g a)
  first =
      let H = held g ls f S in
      emptying (length (ls 0 a)) g.m 0 a g [] 0 (listing g ls) (ls 0 a) (omega arith) la H refl refl (list_within g (listing g ls) H 0 a (omega arith) la)

  pub second : Emptied 1 a (outgoing_out g a).rest (outgoing_out g a).given (outgoing_out g a).rows (less_outgoing g ls a) (less_both g ls a)
      (list_read 1 a (less_outgoing g ls a))
      (stripped g a)
  unfolding stripped
  second =
      let t = outgoing_out g a in
      let M = less_outgoing g ls a in
      let l : a < t.rest.n = rw first.nodes la in
      let H = first.held in
      emptying (length (M.list 1 a)) g.m 1 a t.rest t.given t.rows M (M.list 1 a) (omega arith) l H refl refl
      (omega (arith, list_within t.rest M H 1 a (omega arith) l, first.edges))

  -- the weights of the edges that are listed: the outgoing list, then the incoming one without self-loops
  around-is : around g Weight a ≡ map (register g) (ls 0 a) ++ map (register g) (filter (λ x. not (eqb (end_at g 0 x) a)) (ls 1 a))
  around-is =
      ap₂ (λ xs ys. map (register g) xs ++ map (register g) (filter (λ x. not (eqb (end_at g 0 x) a)) ys))
      (filter-all (λ x. true) (rows_from g.links g.m 0 (link_at g 0 (Head a))) (λ x i. refl) ∙ lists_are g ls f S 0 a (omega arith) la)
      (lists_are g ls f S 1 a (omega arith) la)

  pub given_are : (stripped g a).given ≡ around g Weight a
  given_are =
      let p : ℕ → Bool = λ x. not (eqb (end_at g 0 x) a) in
      let t = outgoing_out g a in
      let F = first.follows in
      second.given_are
      ∙ ap₂ (λ xs ys. xs ++ map (register t.rest) ys) first.given_are (F.order 1 a (omega arith) la)
      ∙ ap (λ ys. map (register g) (ls 0 a) ++ ys)
      (map-moved (register t.rest) (register g) first.new (filter p (ls 1 a)) (λ x i.
      let j = in_filter p x (ls 1 a) i in
      (F.stays x (inside g (listing g ls) (held g ls f S) 1 a x (omega arith) la j.0) j.1).weight))
      ∙ sym around-is

  -- the network that is left
  pub strip-fits : fits (stripped g a).rest ≡ true
  strip-fits = second.held.fit

  pub strip-sound : Sound (stripped g a).rest (less_both g ls a).list
  strip-sound = second.held.sound

  pub strip-nodes : (stripped g a).rest.n ≡ g.n
  strip-nodes = second.nodes ∙ first.nodes

  pub strip-freed : Freed g (stripped g a).rest
  strip-freed =
      freed_on g (outgoing_out g a).rest (stripped g a).rest (omega (arith, first.nodes)) (omega (arith, first.edges)) first.freed second.freed

  pub strip-totals : (stripped g a).rest.weights ≡ g.weights
  strip-totals = second.totals ∙ first.totals

  -- how many edges go
  pub count : length (around g Weight a) ≡ length (ls 0 a) + length ((less_outgoing g ls a).list 1 a)
  count =
      let t = outgoing_out g a in
      let M = less_outgoing g ls a in
      omega (
        arith,
        ap length given_are,
        ap length second.given_are,
        ap length first.given_are,
        length-append t.given (map (register t.rest) (M.list 1 a)),
        length-map (M.list 1 a) (register t.rest),
        length-map (ls 0 a) (register g),
      )

  pub strip-edges : (stripped g a).rest.m + length (around g Weight a) ≡ g.m
  strip-edges = omega (arith, second.edges, first.edges, count)

  -- both lists of a are empty
  pub bare-lists : (k : ℕ) → k < 2 → (less_both g ls a).list k a ≡ []
  bare-lists =
      let M = less_outgoing g ls a in
      let q : ℕ → Bool = λ x. not (eqb (end_at (outgoing_out g a).rest 1 x) a) in
      two (λ k. (less_both g ls a).list k a ≡ [])
      (second.follows.order 0 a (omega arith) (rw first.nodes la) ∙ ap (λ xs. map second.new (filter q xs)) first.none)
      second.none

  pub strip-bare : (k : ℕ) → k < 2 → link_at (stripped g a).rest k (Head a) ≡ END
  strip-bare k h = rw (bare-lists k h) at (strip-sound.all_end k a h (rw strip-nodes la))

  -- the rows read
  pub strip-rows : (stripped g a).rows ≡ list_read 0 a (listing g ls) + list_read 1 a (less_outgoing g ls a)
  strip-rows = omega (arith, second.rows_are, first.rows_are)

  longest_between : (D : ℕ) → Longest g ls D → Longest (outgoing_out g a).rest (less_outgoing g ls a).list D
  longest_between = none_longer g (listing g ls) _ (outgoing_out g a).rest (less_outgoing g ls a) first.new first.follows first.nodes

  pub longest_left : (D : ℕ) → Longest g ls D → Longest (stripped g a).rest (less_both g ls a).list D
  longest_left D longest =
      none_longer (outgoing_out g a).rest (less_outgoing g ls a) _ (stripped g a).rest (less_both g ls a) second.new second.follows second.nodes D
      (longest_between D longest)

  -- with d edges, at most 3 d (D - 1)
  pub strip-most : (D : ℕ) → Longest g ls D
      → list_read 0 a (listing g ls) + list_read 1 a (less_outgoing g ls a) ≤ 3 * length (around g Weight a) * (D - 1)
  strip-most D longest =
      rw (count, spread (length (ls 0 a)) (length ((less_outgoing g ls a).list 1 a)) (D - 1))
      (omega (arith, first.most D longest, second.most D (longest_between D longest)))

  -- the number that edge x has then; the edges left follow
  pub new_number : ℕ → ℕ
  new_number x = second.new (first.new x)

  pub strip-follows : Follows g (listing g ls) (λ x. not (eqb (end_at g 0 x) a) && not (eqb (end_at g 1 x) a)) (stripped g a).rest (less_both g ls a) new_number
  unfolding new_number
  strip-follows =
      follow g (listing g ls) (λ x. not (eqb (end_at g 0 x) a)) (outgoing_out g a).rest (less_outgoing g ls a) first.new
      (λ x. not (eqb (end_at (outgoing_out g a).rest 1 x) a)) (stripped g a).rest (less_both g ls a) second.new
      (λ x. not (eqb (end_at g 1 x) a))
      first.follows
      second.follows
      first.nodes
      (inside g (listing g ls) (held g ls f S))
      (λ x l t. ap (λ c. not (eqb c a)) ((first.follows.stays x l t).ends 1 (omega arith)))
