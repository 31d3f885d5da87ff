-- An edge goes from a network that is held by its lists: the lists left hold what is left, and the other edges follow.
use Prim.Native.Nat.{ℕ, ◌+◌, ◌-◌, ◌<◌}
use mathlib.Core.Path.{◌≡◌, refl, sym, ap, ap₂, ◌∙◌, subst}
use mathlib.Core.Bool.{Bool, true, false, cond, not, ◌&&◌}
use mathlib.Core.List.{List, map}
use native.Mathlib.Decide.{ℕ_discrete}
use native.Mathlib.Omega.{arith}
use borrow.Author.Tests.{eq-eqb, ne_eqb}
use lib.Dec.{eqb}
use lib.ListN.{length, get_or, length-map}
use Rattle.tables.specs.Net.{Net, fits}
use Rattle.lists.specs.declared.Spot.TheVariants.{Head}
use Rattle.lists.specs.Walk.{link_at, filter}
use Rattle.lists.specs.Chain.{In, without}
use Rattle.lists.proofs.Chains.{below, chain_apart, in_without, apart_gone}
use Rattle.sound.specs.Sound.{end_at, Sound, Lists}
use Rattle.sound.proofs.Same.{members}
use Rattle.sound.proofs.Exactly.{small}
use Rattle.removal.specs.Removal.{taken_out}
use Rattle.removal.specs.Lists.{pos, renamed, left, less_edge, rows_before, rows_read, Longest, EdgeOut}
use Rattle.removal.proofs.Members.{there_back}
use Rattle.removal.proofs.EdgeOuts.{taken_out_lem}
use Rattle.stripping.specs.Lists.{Listing, listing, out_of}
use Rattle.stripping.proofs.Others.{both, map-moved, filter-moved, filter-without, filter-both, in_filter, filter-fewer}

-- the register number of row x
abbrev pub register : Net → ℕ → ℕ
register g x = get_or g.registers x 0

-- a sound network, and its lists, ends and count of edges
pub record Held (g : Net) (N : Listing) : Type 0 where
  pub fit : fits g ≡ true
  pub sound : Sound g N.list
  pub edges : g.m ≡ N.edges
  pub ends : (k x : ℕ) → k < 2 → x < g.m → end_at g k x ≡ N.end k x

pub held : (g : Net) (ls : ℕ → ℕ → List ℕ) → fits g ≡ true → Sound g ls → Held g (listing g ls)
held g ls f S = record { fit = f; sound = S; edges = refl; ends = λ k x h l. refl }

-- row x has become row y
pub record Moved (g h : Net) (x y : ℕ) : Type 0 where
  pub in_use : y < h.m
  pub weight : register h y ≡ register g x
  pub ends : (k : ℕ) → k < 2 → end_at h k y ≡ end_at g k x

-- the edges that pass a test are left, in their order and under new numbers
pub record Follows (g : Net) (N : Listing) (test : ℕ → Bool) (h : Net) (M : Listing) (new : ℕ → ℕ) : Type 0 where
  pub order : (k c : ℕ) → k < 2 → c < g.n → M.list k c ≡ map new (filter test (N.list k c))
  pub stays : (x : ℕ) → x < g.m → test x ≡ true → Moved g h x (new x)

-- and of these those that pass another test
pub follow : (g : Net) (N : Listing) (p : ℕ → Bool) (h : Net) (M : Listing) (new : ℕ → ℕ) (q : ℕ → Bool) (i : Net) (L : Listing) (newer : ℕ → ℕ) (r : ℕ → Bool)
    → Follows g N p h M new → Follows h M q i L newer → h.n ≡ g.n
    → ((k c x : ℕ) → k < 2 → c < g.n → In x (N.list k c) → x < g.m)
    → ((x : ℕ) → x < g.m → p x ≡ true → q (new x) ≡ r x)
    → Follows g N (λ x. p x && r x) i L (λ x. newer (new x))
follow g N p h M new q i L newer r F G nodes inside same =
    record {
      order =
          λ k c hk lc.
          (let xs = N.list k c in
          let ys = filter p xs in
          G.order k c hk (rw nodes lc)
          ∙ ap (λ zs. map newer (filter q zs)) (F.order k c hk lc)
          ∙ ap (map newer) (filter-moved q r new ys (λ x z. let j = in_filter p x xs z in same x (inside k c x hk lc j.0) j.1))
          ∙ map-moved newer (λ x. newer (new x)) new (filter r ys) (λ x z. refl)
          ∙ ap (map (λ x. newer (new x))) (filter-both r p xs));
      stays =
          λ x l t.
          (let b = both (p x) (r x) t in
          let s = F.stays x l b.0 in
          let u = G.stays (new x) s.in_use (same x l b.0 ∙ b.1) in
          record { in_use = u.in_use; weight = u.weight ∙ s.weight; ends = λ k hk. u.ends k hk ∙ s.ends k hk });
    }

-- no list gets longer
pub none_longer : (g : Net) (N : Listing) (p : ℕ → Bool) (h : Net) (M : Listing) (new : ℕ → ℕ) → Follows g N p h M new → h.n ≡ g.n
    → (D : ℕ) → Longest g N.list D → Longest h M.list D
none_longer g N p h M new F nodes D longest k c hk lc =
    let l : c < g.n = rw nodes at lc in
    let xs = N.list k c in
    omega (arith, ap length (F.order k c hk l), length-map (filter p xs) new, filter-fewer p xs, longest k c hk l)

-- the number that an edge had before e went, and that it has then
origin : (m e x : ℕ) → e < m → x < m - 1 → renamed e (m - 1) x < m
origin m e x lt h =
    elim (ℕ_discrete x e) [
      | yes q ↦ rw (eq-eqb x e q) (omega arith)
      | no q ↦ rw (ne_eqb x e q) (omega arith)
    ]

onward : (m e x : ℕ) → e < m → x < m → (x ≡ e → ⊥) → renamed (m - 1) e x < m - 1
onward m e x lt h n =
    elim (ℕ_discrete x (m - 1)) [
      | yes q ↦ rw (eq-eqb x (m - 1) q) (omega arith)
      | no q ↦ rw (ne_eqb x (m - 1) q) (omega arith)
    ]

module _ (g : Net) (N : Listing) (H : Held g N) where
  pub by_members : (k : ℕ) → k < 2 → Lists g.n g.m (link_at g k) (end_at g k) (N.list k)
  by_members = members g N.list (small g H.fit) H.sound

  pub inside : (k c x : ℕ) → k < 2 → c < g.n → In x (N.list k c) → x < g.m
  inside k c x h l i = below (link_at g k) g.m (small g H.fit) (Head c) x (N.list k c) ((by_members k h).chain c l) i

  -- an edge e goes
  module _ (e : ℕ) (lt : e < g.m) where
    pub out : EdgeOut g N.list e (taken_out g e)
    out = taken_out_lem g N.list e H.fit H.sound lt

    pub out_held : Held (taken_out g e).after (out_of e N)
    out_held =
        let o = out in
        record {
          fit = o.fit;
          sound = subst (λ m. Sound (taken_out g e).after (less_edge (m - 1) e N.list)) H.edges o.sound;
          edges = o.edges ∙ ap (λ m. m - 1) H.edges;
          ends =
              λ k x h b.
              (let b' : x < g.m - 1 = rw o.edges at b in
              o.ends k x h b' ∙ H.ends k (renamed e (g.m - 1) x) h (origin g.m e x lt b') ∙ ap (λ m. N.end k (renamed e (m - 1) x)) H.edges);
        }

    -- the rows read, by the lists alone
    same_before : (ls : ℕ → ℕ → List ℕ) (x : ℕ) → x < g.m → rows_before (end_at g) ls x ≡ rows_before N.end ls x
    same_before ls x l = ap₂ (λ c d. pos x (ls 0 c) + pos x (ls 1 d)) (H.ends 0 x (omega arith) l) (H.ends 1 x (omega arith) l)

    pub same_read : rows_read (end_at g) N.list (g.m - 1) e ≡ rows_read N.end N.list (N.edges - 1) e
    same_read =
        ap₂ (λ q r. q + cond (eqb e (g.m - 1)) 0 r) (same_before N.list e lt) (same_before (left e N.list) (g.m - 1) (omega arith))
        ∙ ap (λ m. rows_read N.end N.list (m - 1) e) H.edges

    pub out_moved : (x : ℕ) → x < g.m → (x ≡ e → ⊥) → Moved g (taken_out g e).after x (renamed (N.edges - 1) e x)
    out_moved x b n =
        let o = out in
        let y = renamed (g.m - 1) e x in
        let b' : y < g.m - 1 = onward g.m e x lt b n in
        let back = there_back (g.m - 1) e x n in
        subst (λ m. Moved g (taken_out g e).after x (renamed (m - 1) e x)) H.edges
        (record {
          in_use = rw o.edges b';
          weight = o.weights y b' ∙ ap (register g) back;
          ends = λ k h. o.ends k y h b' ∙ ap (end_at g k) back;
        })

    -- and then those that have not their end at a, as e has
    pub out_follows : (k a : ℕ) → end_at g k e ≡ a → k < 2 → (h : Net) (M : Listing) (new : ℕ → ℕ)
        → Follows (taken_out g e).after (out_of e N) (λ x. not (eqb (end_at (taken_out g e).after k x) a)) h M new
        → Follows g N (λ x. not (eqb (end_at g k x) a)) h M (λ x. new (renamed (N.edges - 1) e x))
    out_follows k a own hk h M new F =
        let i = (taken_out g e).after in
        let l = N.edges - 1 in
        let after : ℕ → Bool = λ x. not (eqb (end_at i k x) a) in
        let before : ℕ → Bool = λ x. not (eqb (end_at g k x) a) in
        let fails : before e ≡ false = ap not (eq-eqb (end_at g k e) a own) in
        let same : (x : ℕ) → x < g.m → (x ≡ e → ⊥) → after (renamed l e x) ≡ before x = λ x b n. ap (λ c. not (eqb c a)) ((out_moved x b n).ends k hk) in
        record {
          order =
              λ j c hj lc.
              (let xs = N.list j c in
              let ys = without e xs in
              let gone = apart_gone e xs (chain_apart (link_at g j) g.m (small g H.fit) (Head c) xs ((by_members j hj).chain c lc)) in
              F.order j c hj (rw out.nodes lc)
              ∙ ap (map new) (filter-moved after before (renamed l e) ys (λ x z. same x (inside j c x hj lc (in_without x e xs z)) (λ q. gone (rw q at z))))
              ∙ map-moved new (λ x. new (renamed l e x)) (renamed l e) (filter before ys) (λ x z. refl)
              ∙ ap (map (λ x. new (renamed l e x))) (filter-without before e xs fails));
          stays =
              λ x b t.
              (let n : x ≡ e → ⊥ = λ q. (let y : true ≡ false = sym t ∙ ap before q ∙ fails in let z : ◌≡◌ {A = ℕ} 0 1 = cc in omega arith) in
              let o = out_moved x b n in
              let s = F.stays (renamed l e x) o.in_use (same x b n ∙ t) in
              record { in_use = s.in_use; weight = s.weight ∙ o.weight; ends = λ j hj. s.ends j hj ∙ o.ends j hj });
        }
