-- The ways in which the calls and their parts end.
use Prim.{Unit, tt}
use Prim.Native.Nat.{ℕ, ◌≤◌, ◌<◌}
use mathlib.Core.Path.{◌≡◌, refl, sym, ap, ◌∙◌}
use mathlib.Core.Logic.{◌⊎◌, inl, inr, ⊎_elim}
use mathlib.Core.Bool.{true, false, ◌&&◌}
use mathlib.Core.List.{List}
use borrow.Author.Tests.{eq-eqb, ne_eqb, lt-ltb, le-ltb, ltb-true}
use lib.Dec.{ltb}
use lib.IntN.{ℤ}
use lib.ListN.{length, set}
use Rattle.std.specs.Prelude.{Result, Ok, Err}
use Rattle.index.specs.declared.Refusal.{Refusal}
use Rattle.index.specs.declared.Refusal.TheVariants.{Tables, Full, NoNode, Taken, Beyond}
use Rattle.index.specs.Index.{END, is_end}
use Rattle.index.specs.Refusals.{refusal_no}
use Rattle.index.proofs.Laws.{not_zero}
use Rattle.tables.specs.Net.{Net, Lent, net, fits}
use Rattle.tables.specs.Answers.{Told, Out, out, done, refused, told_as}
use Rattle.tables.proofs.Laws.{both, tested, fit-says}
use Rattle.tables.proofs.Guards.{FitOf}
use Rattle.rows.specs.Calls.{linked, add_edge}
use Rattle.directory.specs.Directory.{entry, Filed, filed}
use Rattle.directory.proofs.Beside.{beside-refused}
use Rattle.dirrows.specs.Calls.{claimed, entered, reweighed, add_edge_filed}
use Rattle.dirrows.specs.Parts.{claim_no, Adds, Reweighs}

-- a claim, by what its entry x is
module _ (d : List ℕ) (w e : ℕ) where
  pub claim_beyond : length d ≤ w → Err Beyond ≡ claimed d w e
  unfolding claimed
  claim_beyond h = rw (le-ltb w (length d) h)

  module _ (h : w < length d) {x : ℕ} (is : x ≡ entry d w) where
    pub claim_none : is_end x ≡ true → Ok tt ≡ claimed d w e
    unfolding claimed
    claim_none z = rw (lt-ltb w (length d) h, ← is, z)

    pub claim_own : is_end x ≡ false → x ≡ e → Ok tt ≡ claimed d w e
    unfolding claimed
    claim_own z q = rw (lt-ltb w (length d) h, ← is, z, eq-eqb x e q)

    pub claim_taken : is_end x ≡ false → (x ≡ e → ⊥) → Err Taken ≡ claimed d w e
    unfolding claimed
    claim_taken z q = rw (lt-ltb w (length d) h, ← is, z, ne_eqb x e q)

-- there is room for a new edge from a to b
pub record Room (g : Net) (a b : ℕ) : Type 0 where
  pub fit : FitOf g
  pub row : g.m < length g.registers
  pub source : a < g.n
  pub target : b < g.n

-- without a directory an add is refused, and leaves the network; or it is served
pub add_ends : (g : Net) (a b w : ℕ)
    → ((why : Refusal) × (add_edge g a b w ≡ out (refused why 0) g)) ⊎ ((add_edge g a b w ≡ out (done g.m) (linked g a b w)) × Room g a b)
unfolding add_edge
add_ends g a b w =
    let P : Out ℕ Net → Type 0 =
    λ o. ((why : Refusal) × (o ≡ out (refused why 0) g)) ⊎ ((o ≡ out (done g.m) (linked g a b w)) × Room g a b) in
    tested P (fits g) _ _ (inl (Tables, refl)) (λ t.
    tested P (ltb g.m (length g.registers)) _ _ (inl (Full, refl)) (λ l.
    tested P (ltb a g.n && ltb b g.n) _ _ (inl (NoNode, refl)) (λ k.
    let k2 = both (ltb a g.n) (ltb b g.n) k in
    inr (refl, record { fit = fit-says _ _ _ _ _ _ _ t; row = ltb-true _ _ l; source = ltb-true _ _ k2.0; target = ltb-true _ _ k2.1 }))))

-- an edge added, by what `addable` told
module _ (f : Filed) (a b w : ℕ) (c : Result Unit Refusal) (told : Adds f.net a b c) where
  abbrev base : Out ℕ Net
  base = add_edge f.net a b w

  pub not_addable : (why : Refusal) → c ≡ Err why → out (refused why 0) f ≡ add_edge_filed f a b w
  unfolding add_edge_filed
  not_addable why q =
      let z : refusal_no why ≡ base.answer.number = sym (ap claim_no q) ∙ told w in
      beside-refused f base (entered f w base) why 0 f.net
      (⊎_elim
      (λ x. rw (x.1, z ∙ ap (λ (o : Out ℕ Net). o.answer.number) x.1))
      (λ x. absurd (not_zero why (z ∙ ap (λ (o : Out ℕ Net). o.answer.number) x.0)))
      (add_ends f.net a b w))

  module _ (free : c ≡ Ok tt) where
    served : (base ≡ out (done f.net.m) (linked f.net a b w)) × Room f.net a b
    served =
        let z : 0 ≡ base.answer.number = sym (ap claim_no free) ∙ told w in
        ⊎_elim (λ x. absurd (not_zero x.0 (sym (z ∙ ap (λ (o : Out ℕ Net). o.answer.number) x.1)))) (λ x. x) (add_ends f.net a b w)

    pub room : Room f.net a b
    room = served.1

    pub entered_so : (h : Net) (d : List ℕ) → claimed f.directory w END ≡ Ok tt
        → out (done f.net.m) h ≡ out (done f.net.m) (linked f.net a b w) → d ≡ set f.directory w f.net.m
        → out (done f.net.m) (filed h d) ≡ add_edge_filed f a b w
    unfolding add_edge_filed
    entered_so h d q p z = rw (served.0, q, z) (ap (λ (o : Out ℕ Net). out o.answer (filed o.after (set f.directory w f.net.m))) p)

-- an edge reweighted, by what its claim came to
abbrev pub granted : {A : Type 0} → A → A → Result Unit Refusal → Told A
granted values zeros = told_as (λ (u : Unit). values) zeros

module _ (weights : List ℤ) (heads : List ℕ) (registers : Lent ℕ) (links ends : List ℕ) (n m : ℕ) (directory : Lent ℕ) (e w : ℕ) where
  abbrev before : Filed
  before = filed (net weights heads registers.old links ends n m) directory.old

  abbrev after : Filed
  after = filed (net weights heads registers.new links ends n m) directory.new

  abbrev reset : Net
  reset = net weights heads (set registers.old e w) links ends n m

  pub reweighed_so : {A : Type 0} (zeros values : A) (o : Out A Net) (c : Result Unit Refusal) → out (done values) reset ≡ o → Reweighs registers directory e w c
      → out (granted values zeros c) after ≡ reweighed before zeros e w o
  reweighed_so zeros values o (Ok u) p q = rw (← p, ← q.answer_is, q.registers_are, q.directory_is)
  reweighed_so zeros values o (Err why) p q = rw (← q.answer_is, q.registers_are, q.directory_is)
