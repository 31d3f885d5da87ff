-- Where an image's numbers and rows stand: `of_image`; and a file's spans put together again: `image_again`.
use Prim.Native.Nat.{ℕ, zero, suc, ◌+◌, ◌*◌, ◌^◌, ◌≤◌, ◌<◌}
use mathlib.Core.Path.{◌≡◌, refl, sym, ap, ap₂, ◌∙◌}
use mathlib.Core.Bool.{true, ◌&&◌}
use mathlib.Core.List.{List, [], ◌∷◌, ◌++◌, append_assoc, append-nil}
use native.Mathlib.Nat.{mul-zero, mul-suc}
use native.Mathlib.Decide.{ℕ_discrete}
use native.Mathlib.Omega.{arith}
use borrow.Author.Tests.{eqb-true}
use lib.Dec.{eqb}
use lib.ListN.{length, get_or, take, drop, length-append, length-drop, take-append-drop}
use lib.Seq.{drop_at, drop-drop, take_all}
use Rattle.tables.specs.Net.{Net}
use Rattle.tables.specs.Rows.{node_row, edge_row}
use Rattle.tables.proofs.Laws.{both}
use Rattle.layout.specs.Numbers.{le, number, number_at, Bytes}
use Rattle.layout.specs.Layout.{mark, version, head, head_bytes, image_length, node_bytes, edge_bytes, marked, version_in, nodes_in, edges_in}
use Rattle.layout.specs.Lengths.{node-length, edge-length}
use Rattle.layout.proofs.Placing.{head-length}
use Rattle.layout.proofs.Words.{number-le, word_back, half_back, span_add}
use Rattle.imagerows.specs.Image.{rows_of, image_of, node_place, edge_place}
use Rattle.imagerows.proofs.Turns.{rows-length}
use Rattle.imagerows.proofs.Served.{node_span, edge_span, node_span_lem}

-- the bytes xs stand at a place of l
abbrev pub Stands : List ℕ → ℕ → List ℕ → Type 0
Stands l at xs = (rest : List ℕ) × (drop at l ≡ xs ++ rest)

-- row a of the rows one behind the other
module _ (f : ℕ → List ℕ) (k : ℕ) (len : (a : ℕ) → length (f a) ≡ k) where
  row_stands : (n a : ℕ) (t : List ℕ) → a < n → Stands (rows_of f n ++ t) (k * a) (f a)
  unfolding rows_of
  row_stands zero a t h = absurd (omega arith)
  row_stands (suc n) a t h =
      let e = ap (drop (k * a)) (append_assoc (rows_of f n) (f n) t) in
      elim (ℕ_discrete a n) [
        | yes q ↦ (t, e ∙ drop_at (rows_of f n) (f n ++ t) (k * a) (rows-length f k len n ∙ ap (λ i. k * i) (sym q)) ∙ ap (λ i. f i ++ t) (sym q))
        | no q ↦ (let r = row_stands n a (f n ++ t) (omega arith) in (r.0, e ∙ r.1))
      ]

-- what stands behind a first part of l
behind : (p q l : List ℕ) (at j : ℕ) (xs : List ℕ) → l ≡ p ++ q → length p ≡ at → Stands q j xs → Stands l (at + j) xs
behind p q l at j xs e h s = (s.0, ap (drop (at + j)) e ∙ sym (drop-drop j at (p ++ q)) ∙ ap (drop j) (drop_at p q at h) ∙ s.1)

-- the head and the rows of an image
module _ (g : Net) where
  pub image_marked : marked (image_of g) ≡ true
  unfolding image_of head marked
  image_marked = refl

  pub image_version : version_in (image_of g) ≡ version
  unfolding image_of head le number number_at
  image_version = refl

  pub image_nodes : g.n < 2 ^ 32 → nodes_in (image_of g) ≡ g.n
  unfolding image_of head le number_at
  image_nodes h = number-le g.n h

  pub image_edges : g.m < 2 ^ 32 → edges_in (image_of g) ≡ g.m
  unfolding image_of head le number_at
  image_edges h = number-le g.m h

  pub node-stands : (a : ℕ) → a < g.n → Stands (image_of g) (node_place a) (node_bytes (node_row g a))
  unfolding image_of
  node-stands a h =
      behind (head g.n g.m) (node_span g ++ edge_span g) (image_of g) head_bytes (12 * a) (node_bytes (node_row g a)) refl (head-length g.n g.m)
      (row_stands (λ i. node_bytes (node_row g i)) 12 (λ i. node-length (node_row g i)) g.n a (edge_span g) h)

  pub edge-stands : (e : ℕ) → e < g.m → Stands (image_of g) (edge_place g.n e) (edge_bytes (edge_row g e))
  unfolding image_of
  edge-stands e h =
      let front = head g.n g.m ++ node_span g in
      let l : length front ≡ node_place g.n = length-append (head g.n g.m) (node_span g) ∙ ap₂ (λ (x y : ℕ). x + y) (head-length g.n g.m) (node_span_lem g) in
      behind front (edge_span g ++ []) (image_of g) (node_place g.n) (20 * e) (edge_bytes (edge_row g e))
      (sym (append_assoc (head g.n g.m) (node_span g) (edge_span g)) ∙ ap (λ (x : List ℕ). front ++ x) (sym (append-nil (edge_span g))))
      l
      (row_stands (λ i. edge_bytes (edge_row g i)) 20 (λ i. edge-length (edge_row g i)) g.m e [] h)

-- rows that are the spans of l
rows_span : (l : List ℕ) (at k : ℕ) (f : ℕ → List ℕ) (n : ℕ) → ((a : ℕ) → a < n → f a ≡ take k (drop (at + k * a) l))
    → rows_of f n ≡ take (k * n) (drop at l)
unfolding rows_of
rows_span l at k f zero h = ap (λ i. take i (drop at l)) (sym (mul-zero k))
rows_span l at k f (suc n) h =
    ap₂ (λ (x y : List ℕ). x ++ y) (rows_span l at k f n (λ a i. h a (omega arith))) (h n (omega arith))
    ∙ span_add at (k * n) k l refl
    ∙ ap (λ i. take i (drop at l)) (sym (mul-suc k n))

three : (l : List ℕ) → 3 ≤ length l → {x y z : ℕ} → get_or l 0 0 ≡ x → get_or l 1 0 ≡ y → get_or l 2 0 ≡ z → x ∷ y ∷ z ∷ [] ≡ take 3 l
three [] h p q r = absurd (omega arith)
three (a ∷ []) h p q r = absurd (omega arith)
three (a ∷ b ∷ []) h p q r = absurd (omega arith)
three (a ∷ b ∷ c ∷ l) h p q r = rw (p, q, r)

-- the head of a file with the mark and the version
pub mark-again : (l : List ℕ) → head_bytes ≤ length l → marked l ≡ true → mark ≡ take 3 l
unfolding marked
mark-again l long h =
    let x = both (eqb (get_or l 0 0) 87 && eqb (get_or l 1 0) 78) (eqb (get_or l 2 0) 84) h in
    let y = both (eqb (get_or l 0 0) 87) (eqb (get_or l 1 0) 78) x.0 in
    three l (omega arith) (eqb-true _ _ y.0) (eqb-true _ _ y.1) (eqb-true _ _ x.1)

module _ (l : List ℕ) (b : Bytes l) (long : head_bytes ≤ length l) where
  pub head-again : marked l ≡ true → version_in l ≡ version → head (nodes_in l) (edges_in l) ≡ take head_bytes l
  unfolding head
  head-again h v =
      let join : List ℕ → List ℕ → List ℕ = λ x y. x ++ y in
      let counts : le 4 (nodes_in l) ++ le 4 (edges_in l) ≡ take 8 (drop 5 l) = ap₂ join (word_back l b 5 (omega arith)) (word_back l b 9 (omega arith)) ∙ span_add 5 4 4 l refl in
      let rest = ap₂ join (ap (le 2) (sym v) ∙ half_back l b 3 (omega arith)) counts ∙ span_add 3 2 8 l refl in
      ap₂ join (mark-again l long h) rest ∙ span_add 0 3 10 l refl

-- a file whose rows are the network's is the network's image
pub image_again : (l : List ℕ) (g : Net) → Bytes l → marked l ≡ true → version_in l ≡ version → g.n ≡ nodes_in l → g.m ≡ edges_in l
    → length l ≡ image_length g.n g.m
    → ((a : ℕ) → a < g.n → node_bytes (node_row g a) ≡ take 12 (drop (node_place a) l))
    → ((e : ℕ) → e < g.m → edge_bytes (edge_row g e) ≡ take 20 (drop (edge_place g.n e) l))
    → image_of g ≡ l
unfolding image_of
image_again l g b h v p q k nodes edges =
    let hd : head g.n g.m ≡ take head_bytes l = ap₂ head p q ∙ head-again l b (omega arith) h v in
    let ns = rows_span l head_bytes 12 (λ a. node_bytes (node_row g a)) g.n nodes in
    let es = rows_span l (node_place g.n) 20 (λ e. edge_bytes (edge_row g e)) g.m edges in
    rw (hd, ns, es, span_add head_bytes (12 * g.n) (20 * g.m) l {next = node_place g.n} refl)
    (ap (λ (x : List ℕ). take head_bytes l ++ x) (take_all (12 * g.n + 20 * g.m) (drop head_bytes l) (simp length-drop (omega arith)))
    ∙ take-append-drop head_bytes l)
