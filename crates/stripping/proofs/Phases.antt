-- The stripping, one direction after the other.
use Prim.Native.Nat.{ℕ, zero, suc, ◌+◌, ◌*◌, ◌-◌, ◌≤◌, ◌<◌}
use mathlib.Core.Path.{◌≡◌, refl, sym, ap, ◌∙◌}
use mathlib.Core.Bool.{true, false}
use mathlib.Core.List.{List, [], ◌∷◌, ◌++◌}
use native.Mathlib.Numerals.{add-one}
use native.Mathlib.Omega.{arith}
use borrow.Author.Tests.{eqb-true}
use lib.IntN.{ℤ}
use lib.ListN.{length, drop, length-append}
use Rattle.index.specs.Index.{is_end}
use Rattle.tables.specs.Net.{Net, net}
use Rattle.tables.specs.Answers.{onto}
use Rattle.lists.specs.declared.Spot.TheVariants.{Head}
use Rattle.lists.specs.Walk.{link_in}
use Rattle.sound.proofs.Kept.{fit_of}
use Rattle.removal.specs.Removal.{taken_out}
use Rattle.stripping.specs.Heads.{Strip, strip, head_out, emptied, stripped}
use Rattle.stripping.specs.Parts.{Strippable}
use Rattle.stripping.proofs.Turns.{emptied-done, emptied-on, given_grows, head-out}
use Rattle.stripping.proofs.Headwise.{no_end, Alive, Turned}

-- node a stripped of its lists in the directions below k
abbrev pub phase : Net → ℕ → ℕ → Strip
phase g a zero = strip g [] 0
phase g a (suc k) = emptied g.m k a (phase g a k)

stripped-is : (g : Net) (a : ℕ) → phase g a 2 ≡ stripped g a
unfolding stripped
stripped-is g a = refl

phase_longer : (g : Net) (a k : ℕ) → k ≤ 2 → length (phase g a k).given ≤ length (stripped g a).given
unfolding stripped
phase_longer g a zero h = omega arith
phase_longer g a (suc zero) h = given_grows g.m 1 a (phase g a 1)
phase_longer g a (suc (suc zero)) h = omega arith
phase_longer g a (suc (suc (suc k))) h = absurd (omega arith)

pub few_edges : {H R L E : List ℕ} {n m a items : ℕ} → Strippable H R L E n m a items → m ≤ 65536
few_edges {H} {R} {L} {E} {n} {m} P =
    let f = fit_of (net P.totals H R L E n m) P.fit in
    omega (arith, f.edges_most, f.m_within)

-- the columns H₀ .. stripped of the directions below k; the weights given stand at the front of I
pub record Phased (n a : ℕ) (H₀ R₀ L₀ E₀ : List ℕ) (m₀ : ℕ) (I₀ : List ℕ) (H R L E : List ℕ) (m : ℕ) (I : List ℕ) (rows count k : ℕ) : Type 0 where
  pub upto : k ≤ 2
  pub alive : Alive n H R L E m
  pub heads_long : length H ≡ length H₀
  pub registers_long : length R ≡ length R₀
  pub links_long : length L ≡ length L₀
  pub ends_long : length E ≡ length E₀
  pub items_long : length I ≡ length I₀
  pub fewer : m ≤ m₀
  pub each : count + m ≡ m₀
  pub few : rows + 4294967296 * m ≤ 4294967296 * m₀
  pub given : List ℕ
  pub many : length given ≡ count
  pub reached : (T : List ℤ) → strip (net T H R L E n m) given rows ≡ phase (net T H₀ R₀ L₀ E₀ n m₀) a k
  pub stored : I ≡ given ++ drop count I₀

module _ (n a : ℕ) (H₀ R₀ L₀ E₀ : List ℕ) (m₀ : ℕ) (I₀ : List ℕ) where
  pub phased_begins : Alive n H₀ R₀ L₀ E₀ m₀ → Phased n a H₀ R₀ L₀ E₀ m₀ I₀ H₀ R₀ L₀ E₀ m₀ I₀ 0 0 0
  phased_begins A =
      record {
        upto = omega arith;
        alive = A;
        heads_long = refl;
        registers_long = refl;
        links_long = refl;
        ends_long = refl;
        items_long = refl;
        fewer = omega arith;
        each = omega arith;
        few = omega arith;
        given = [];
        many = refl;
        reached = λ T. refl;
        stored = refl;
      }

  module _ {H R L E : List ℕ} {m : ℕ} {I : List ℕ} {rows count k : ℕ} (p : Phased n a H₀ R₀ L₀ E₀ m₀ I₀ H R L E m I rows count k)
      {H' R' L' E' : List ℕ} {m' : ℕ} {I' : List ℕ} {rows' count' : ℕ} (t : Turned n k a H R L E m I rows count H' R' L' E' m' I' rows' count') where
    -- what the turns so far come to in the end
    in_the_end : (T : List ℤ) → emptied (m₀ - (m - m')) k a (strip (net T H' R' L' E' n m') (p.given ++ t.new) rows') ≡ phase (net T H₀ R₀ L₀ E₀ n m₀) a (suc k)
    in_the_end T = t.goes_on m₀ p.given T p.fewer ∙ ap (emptied m₀ k a) (p.reached T)

    -- the head is `END`: on to the next direction
    pub phased_more : k < 2 → is_end (link_in H' L' k (Head a)) ≡ true → Phased n a H₀ R₀ L₀ E₀ m₀ I₀ H' R' L' E' m' I' rows' count' (k + 1)
    phased_more h z =
        record {
          upto = omega arith;
          alive = t.alive;
          heads_long = t.heads_long ∙ p.heads_long;
          registers_long = t.registers_long ∙ p.registers_long;
          links_long = t.links_long ∙ p.links_long;
          ends_long = t.ends_long ∙ p.ends_long;
          items_long = t.items_long ∙ p.items_long;
          fewer = omega (arith, t.fewer, p.fewer);
          each = omega (arith, t.each, p.each);
          few = omega (arith, t.few, p.few);
          given = p.given ++ t.new;
          many = omega (arith, p.many, t.many, length-append p.given t.new);
          reached =
              λ T.
              rw (add-one k)
              (sym (emptied-done (m₀ - (m - m')) k a (strip (net T H' R' L' E' n m') (p.given ++ t.new) rows') (eqb-true _ _ z)) ∙ in_the_end T);
          stored = t.stored p.given I₀ p.many p.stored;
        }

    -- it is not: the table has room for one weight more
    pub room_for-more : (T : List ℤ) → length (stripped (net T H₀ R₀ L₀ E₀ n m₀) a).given ≤ length I₀ → k < 2 → a < n
        → is_end (link_in H' L' k (Head a)) ≡ false → count' < length I'
    room_for-more T room h l z =
        let b = (head-out (net t.alive.totals H' R' L' E' n m') t.alive.lists k a t.alive.fit t.alive.sound h l (no_end _ z)).0 in
        let s = strip (net T H' R' L' E' n m') (p.given ++ t.new) rows' in
        let f = m₀ - (m - m') - 1 in
        let q : m₀ - (m - m') ≡ suc f = omega (arith, b, t.fewer, p.fewer) in
        let e : emptied f k a (head_out k a s) ≡ phase (net T H₀ R₀ L₀ E₀ n m₀) a (suc k) =
        sym (emptied-on f k a s (no_end _ z)) ∙ ap (λ x. emptied x k a s) (sym q) ∙ in_the_end T in
        omega (
          arith,
          room,
          phase_longer (net T H₀ R₀ L₀ E₀ n m₀) a (suc k) (omega arith),
          ap (λ (x : Strip). length x.given) e,
          given_grows f k a (head_out k a s),
          length-append (p.given ++ t.new) ((taken_out (net T H' R' L' E' n m') (link_in H' L' k (Head a))).answer.values.0 ∷ []),
          length-append p.given t.new,
          p.many,
          t.many,
          t.items_long,
          p.items_long,
        )

  -- both directions are done
  module _ {H R L E : List ℕ} {m : ℕ} {I : List ℕ} {rows count k : ℕ} (p : Phased n a H₀ R₀ L₀ E₀ m₀ I₀ H R L E m I rows count k) where
    pub phased_rest : 2 ≤ k → (T : List ℤ) → strip (net T H R L E n m) p.given rows ≡ stripped (net T H₀ R₀ L₀ E₀ n m₀) a
    phased_rest h T =
        let z : k ≡ 2 = omega (arith, p.upto) in
        p.reached T ∙ ap (phase (net T H₀ R₀ L₀ E₀ n m₀) a) z ∙ stripped-is (net T H₀ R₀ L₀ E₀ n m₀) a

    pub phased_items : I ≡ onto p.given I₀
    phased_items = p.stored ∙ ap (λ c. p.given ++ drop c I₀) (sym p.many)

    -- the same columns by other names
    pub phased_as : {H' R' L' E' : List ℕ} {m' : ℕ} → H' ≡ H → R' ≡ R → L' ≡ L → E' ≡ E → m' ≡ m
        → Phased n a H₀ R₀ L₀ E₀ m₀ I₀ H' R' L' E' m' I rows count k
    phased_as h r l e q = rw (h, r, l, e, q) p
