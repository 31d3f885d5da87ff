-- A list is emptied, head after head: what the turns come to is what the definitions over lists say.
use Prim.Native.Nat.{ℕ, zero, suc, ◌+◌, ◌*◌, ◌-◌, ◌≤◌, ◌<◌}
use mathlib.Core.Path.{◌≡◌, refl, sym, ap, ◌∙◌, subst}
use mathlib.Core.Logic.{inl, inr}
use mathlib.Core.Bool.{Bool, true, not}
use mathlib.Core.List.{List, [], ◌∷◌, ◌++◌, map, map-id, append_assoc, append-nil}
use native.Mathlib.Nat.{add-zero, not-suc-le-zero}
use native.Mathlib.Omega.{arith}
use borrow.Author.Tests.{eq-eqb, ne_eqb}
use lib.Dec.{eqb}
use lib.ListN.{length, length-map}
use Rattle.index.specs.Index.{END}
use Rattle.tables.specs.Net.{Net}
use Rattle.tables.specs.Answers.{Told}
use Rattle.lists.specs.declared.Spot.TheVariants.{Head}
use Rattle.lists.specs.Walk.{link_at, filter}
use Rattle.lists.specs.Chain.{Chain, In, without}
use Rattle.lists.proofs.Chains.{fresh, below}
use Rattle.sound.specs.Sound.{end_at}
use Rattle.sound.proofs.Exactly.{small}
use Rattle.removal.specs.Removal.{taken_out}
use Rattle.removal.specs.Lists.{pos, renamed, rows_read, Longest, Freed}
use Rattle.removal.proofs.Members.{no_longer}
use Rattle.removal.proofs.Bounds.{most_rows_first}
use Rattle.removal.proofs.Freed.{freed_none, freed_on}
use Rattle.stripping.specs.Heads.{Strip, strip, head_out, emptied}
use Rattle.stripping.specs.Lists.{Listing, out_of, heads_out, heads_read}
use Rattle.stripping.proofs.Others.{map-moved, filter-all}
use Rattle.stripping.proofs.Turns.{emptied-done, emptied-on}
use Rattle.stripping.proofs.Follow.{register, Held, Follows, by_members, inside, out, out_held, same_read, out_moved, out_follows}

no_heads : (k a : ℕ) (N : Listing) → heads_out zero k a N ≡ N
unfolding heads_out
no_heads k a N = refl

no_read : (k a : ℕ) (N : Listing) → heads_read zero k a N ≡ 0
unfolding heads_read
no_read k a N = refl

heads_out_lem : (f k a : ℕ) (N : Listing) (e : ℕ) (xs : List ℕ) → N.list k a ≡ e ∷ xs → heads_out (suc f) k a N ≡ heads_out f k a (out_of e N)
unfolding heads_out
heads_out_lem f k a N e xs q = rw q

heads_read_lem : (f k a : ℕ) (N : Listing) (e : ℕ) (xs : List ℕ) → N.list k a ≡ e ∷ xs
    → heads_read (suc f) k a N ≡ rows_read N.end N.list (N.edges - 1) e + heads_read f k a (out_of e N)
unfolding heads_read
heads_read_lem f k a N e xs q = rw q

-- node a's list of direction k, emptied: what there was before, N in g, and what is left, M; the rows read, the weights given
pub record Emptied (k a : ℕ) (g : Net) (given : List ℕ) (rows : ℕ) (N M : Listing) (read : ℕ) (t : Strip) : Type 0 where
  pub held : Held t.rest M
  pub nodes : t.rest.n ≡ g.n
  pub totals : t.rest.weights ≡ g.weights
  pub edges : t.rest.m + length (N.list k a) ≡ g.m
  pub freed : Freed g t.rest
  pub none : M.list k a ≡ []
  pub rows_are : t.rows ≡ rows + read
  pub given_are : t.given ≡ given ++ map (register g) (N.list k a)
  pub most : (D : ℕ) → Longest g N.list D → read ≤ length (N.list k a) * (3 * (D - 1))
  pub new : ℕ → ℕ
  pub follows : Follows g N (λ x. not (eqb (end_at g k x) a)) t.rest M new

-- the list is empty
bare : (k a : ℕ) (g : Net) (given : List ℕ) (rows : ℕ) (N : Listing) → k < 2 → Held g N → N.list k a ≡ []
    → Emptied k a g given rows N N 0 (strip g given rows)
bare k a g given rows N hk H q =
    let test : ℕ → Bool = λ x. not (eqb (end_at g k x) a) in
    let passes : (x : ℕ) → x < g.m → test x ≡ true =
    λ x b. ap not (ne_eqb (end_at g k x) a (λ o. let i : In x [] = rw (o, q) at ((by_members g N H k hk).listed x b) in i)) in
    record {
      held = H;
      nodes = refl;
      totals = refl;
      edges = rw q (omega arith);
      freed = freed_none g;
      none = q;
      rows_are = sym (add-zero rows);
      given_are = rw q (sym (append-nil given));
      most = λ D l. omega arith;
      new = λ x. x;
      follows =
          record {
            order =
                λ j c hj lc.
                sym (map-id (filter test (N.list j c)) ∙ filter-all test (N.list j c) (λ x i. passes x (inside g N H j c x hj lc i)));
            stays = λ x b t. record { in_use = b; weight = refl; ends = λ j hj. refl };
          };
    }

-- its first edge goes
module _ (k a : ℕ) (g : Net) (N : Listing) (hk : k < 2) (la : a < g.n) (H : Held g N) (e : ℕ) (xs : List ℕ) (q : N.list k a ≡ e ∷ xs) where
  chain : Chain (link_at g k) g.m (Head a) (e ∷ xs)
  chain = rw q at (H.sound.all_end k a hk la)

  in_range : e < g.m
  in_range = chain.1

  not_end : link_at g k (Head a) ≡ END → ⊥
  not_end h = omega (arith, chain.0, in_range, small g H.fit)

  own : end_at g k e ≡ a
  own = (by_members g N H k hk).own a la e (rw q (inl refl))

  list_left : (out_of e N).list k a ≡ map (renamed (N.edges - 1) e) xs
  list_left = rw (q, eq-eqb e e refl)

  length-left : length ((out_of e N).list k a) ≡ length xs
  length-left = rw list_left (length-map xs (renamed (N.edges - 1) e))

  length_before : length (N.list k a) ≡ suc (length xs)
  length_before = rw q

  weights_left : map (register (taken_out g e).after) ((out_of e N).list k a) ≡ map (register g) xs
  weights_left =
      rw list_left
      (map-moved (register (taken_out g e).after) (register g) (renamed (N.edges - 1) e) xs (λ x i.
      (out_moved g N H e in_range x (below (link_at g k) g.m (small g H.fit) (Head a) x (e ∷ xs) chain (inr i))
      (λ h. fresh (link_at g k) g.m (small g H.fit) e xs chain.2 (rw h at i))).weight))

  few : (D : ℕ) → Longest g N.list D → rows_read N.end N.list (N.edges - 1) e ≤ 3 * (D - 1)
  few D longest =
      let z : pos e (N.list k (end_at g k e)) ≡ 0 = rw (own, q, eq-eqb e e refl) in
      rw (← same_read g N H e in_range) (most_rows_first g N.list e H.fit H.sound in_range D longest k hk z)

  longest_left : (D : ℕ) → Longest g N.list D → Longest (taken_out g e).after (out_of e N).list D
  longest_left D longest j c hj lc =
      let n = (out g N H e in_range).nodes in
      omega (arith, length-map (without e (N.list j c)) (renamed (N.edges - 1) e), no_longer e (N.list j c), longest j c hj (rw n at lc))

  -- and the rest is emptied
  module _ (given : List ℕ) (rows : ℕ) where
    abbrev read : ℕ
    read = rows_read N.end N.list (N.edges - 1) e

    abbrev next : Strip
    next = strip (taken_out g e).after (given ++ (register g e ∷ [])) (rows + read)

    turn : head_out k a (strip g given rows) ≡ next
    turn =
        let i = (taken_out g e).after in
        ap (λ x. strip (taken_out g x).after (given ++ ((taken_out g x).answer.values.0 ∷ [])) (rows + (taken_out g x).answer.values.2)) chain.0
        ∙ ap (λ (v : Told (ℕ × ℕ × ℕ)). strip i (given ++ (v.values.0 ∷ [])) (rows + v.values.2)) (out g N H e in_range).served
        ∙ ap (λ r. strip i (given ++ (register g e ∷ [])) (rows + r)) (same_read g N H e in_range)

    then : (M : Listing) (r : ℕ) (t : Strip) → Emptied k a next.rest next.given next.rows (out_of e N) M r t
        → Emptied k a g given rows N M (read + r) t
    then M r t E =
        let o = out g N H e in_range in
        record {
          held = E.held;
          nodes = E.nodes ∙ o.nodes;
          totals = E.totals ∙ o.totals;
          edges = omega (arith, E.edges, o.edges, in_range, length-left, length_before);
          freed = freed_on g next.rest t.rest (omega (arith, o.nodes)) (omega (arith, o.edges)) o.freed E.freed;
          none = E.none;
          rows_are = omega (arith, E.rows_are);
          given_are =
              E.given_are ∙ ap (λ ys. (given ++ (register g e ∷ [])) ++ ys) weights_left ∙ append_assoc given (register g e ∷ []) (map (register g) xs)
              ∙ ap (λ ys. given ++ map (register g) ys) (sym q);
          most =
              λ D longest.
              (let i : r ≤ length xs * (3 * (D - 1)) = rw length-left at (E.most D (longest_left D longest)) in
              rw length_before (omega (arith, few D longest)));
          new = λ x. E.new (renamed (N.edges - 1) e x);
          follows = out_follows g N H e in_range k a own hk t.rest M E.new E.follows;
        }

    turned : (f left : ℕ)
        → Emptied k a next.rest next.given next.rows (out_of e N) (heads_out f k a (out_of e N)) (heads_read f k a (out_of e N)) (emptied left k a next)
        → Emptied k a g given rows N (heads_out (suc f) k a N) (heads_read (suc f) k a N) (emptied (suc left) k a (strip g given rows))
    turned f left E =
        let M = heads_out f k a (out_of e N) in
        let r = heads_read f k a (out_of e N) in
        let t = emptied (suc left) k a (strip g given rows) in
        subst (λ L. Emptied k a g given rows N L (heads_read (suc f) k a N) t) (sym (heads_out_lem f k a N e xs q))
        (subst (λ l. Emptied k a g given rows N M l t) (sym (heads_read_lem f k a N e xs q))
        (subst (Emptied k a g given rows N M (read + r)) (sym (emptied-on left k a (strip g given rows) not_end ∙ ap (emptied left k a) turn))
        (then M r (emptied left k a next) E)))

-- where the list has f edges, f turns empty it
pub emptying : (f left k a : ℕ) (g : Net) (given : List ℕ) (rows : ℕ) (N : Listing) (xs : List ℕ) → k < 2 → a < g.n → Held g N → N.list k a ≡ xs → length xs ≡ f
    → f ≤ left → Emptied k a g given rows N (heads_out f k a N) (heads_read f k a N) (emptied left k a (strip g given rows))
emptying zero left k a g given rows N [] hk la H q z l =
    let c : link_at g k (Head a) ≡ END = rw q at (H.sound.all_end k a hk la) in
    rw (no_heads k a N, no_read k a N)
    (subst (Emptied k a g given rows N N 0) (sym (emptied-done left k a (strip g given rows) c)) (bare k a g given rows N hk H q))
emptying zero left k a g given rows N (e ∷ xs) hk la H q z l = absurd (omega arith)
emptying (suc f) left k a g given rows N [] hk la H q z l = absurd (omega arith)
emptying (suc f) zero k a g given rows N (e ∷ xs) hk la H q z l = absurd (not-suc-le-zero l)
emptying (suc f) (suc left) k a g given rows N (e ∷ xs) hk la H q z l =
    let lt = in_range k a g N hk la H e xs q in
    let r = rows_read N.end N.list (N.edges - 1) e in
    turned k a g N hk la H e xs q given rows f left
    (emptying f left k a (taken_out g e).after (given ++ (register g e ∷ [])) (rows + r) (out_of e N) (map (renamed (N.edges - 1) e) xs) hk
    (rw (out g N H e lt).nodes la)
    (out_held g N H e lt)
    (list_left k a g N hk la H e xs q)
    (length-map xs (renamed (N.edges - 1) e) ∙ omega arith)
    (omega arith))
