-- A number in four bytes and back, a row in its bytes and back.
use Prim.Native.Nat.{ℕ, ◌+◌, ◌^◌, ◌≤◌, ◌<◌}
use mathlib.Core.Path.{◌≡◌, refl, sym, ap, ap₂, ◌∙◌}
use mathlib.Core.List.{List, [], ◌∷◌, ◌++◌}
use native.Mathlib.Nat.{add-zero}
use native.Mathlib.Omega.{arith}
use lib.ListN.{length, get_or, take, drop}
use lib.Seq.{take-add, drop-drop}
use lib.Signed.{mag}
use Rattle.tables.specs.declared.row.Node.{Node}
use Rattle.tables.specs.declared.row.Edge.{Edge}
use Rattle.layout.specs.Numbers.{le, number, number_at, word_at, bits, Bytes}
use Rattle.layout.specs.Layout.{node_bytes, edge_bytes, node_at, edge_at}
use Rattle.layout.proofs.Placing.{two_at, four_at}
use Rattle.layout.proofs.Complement.{signed-bits, bits-signed, bits_below}

-- the row's numbers fit in 32 bits, as the numbers of u32 and i32 columns do
pub record NodeFits (row : Node) : Type 0 where
  pub weight-fits : mag row.weight < 2 ^ 31
  pub outgoing_fits : row.outgoing.0 < 2 ^ 32
  pub incoming_fits : row.incoming.0 < 2 ^ 32

pub record EdgeFits (row : Edge) : Type 0 where
  pub weight-fits : row.weight < 2 ^ 32
  pub outgoing_fits : row.outgoing.0 < 2 ^ 32
  pub incoming_fits : row.incoming.0 < 2 ^ 32
  pub source_fits : row.source.0 < 2 ^ 32
  pub target_fits : row.target.0 < 2 ^ 32

-- a number in bytes is read back
pub number-le : (x : ℕ) → x < 2 ^ 32 → number (le 4 x) ≡ x
unfolding le number
number-le x h = omega arith

-- bytes that are read are written back
le-number : (b₀ b₁ b₂ b₃ : ℕ) → b₀ < 256 → b₁ < 256 → b₂ < 256 → b₃ < 256
    → le 4 (number (b₀ ∷ b₁ ∷ b₂ ∷ b₃ ∷ [])) ≡ b₀ ∷ b₁ ∷ b₂ ∷ b₃ ∷ []
unfolding le number
le-number b₀ b₁ b₂ b₃ h₀ h₁ h₂ h₃ =
    ap₂ (λ (x : ℕ) (l : List ℕ). x ∷ l) (omega arith)
    (ap₂ (λ (x : ℕ) (l : List ℕ). x ∷ l) (omega arith)
    (ap₂ (λ (x : ℕ) (l : List ℕ). x ∷ l) (omega arith)
    (ap₂ (λ (x : ℕ) (l : List ℕ). x ∷ l) (omega arith) refl)))

module _ (l : List ℕ) (b : Bytes l) where
  pub word_back : (at : ℕ) → at + 4 ≤ length l → le 4 (word_at l at) ≡ take 4 (drop at l)
  unfolding number_at
  word_back at h =
      rw (four_at l at h)
      (le-number (get_or l at 0) (get_or l (at + 1) 0) (get_or l (at + 2) 0) (get_or l (at + 3) 0) (b at) (b (at + 1)) (b (at + 2)) (b (at + 3)))

  pub word_below : (at : ℕ) → at + 4 ≤ length l → word_at l at < 2 ^ 32
  unfolding number_at number
  word_below at h = rw (four_at l at h) (omega (arith, b at, b (at + 1), b (at + 2), b (at + 3)))

  -- two bytes that are read
  pub half_back : (at : ℕ) → at + 2 ≤ length l → le 2 (number_at 2 l at) ≡ take 2 (drop at l)
  unfolding le number_at number
  half_back at h =
      rw (two_at l at h)
      (ap₂ (λ (x : ℕ) (r : List ℕ). x ∷ r) (omega (arith, b at, b (at + 1))) (ap (λ (x : ℕ). x ∷ []) (omega (arith, b at, b (at + 1)))))

-- a span of bytes in two parts
pub span_add : (at j k : ℕ) (l : List ℕ) {next : ℕ} → next ≡ at + j → take j (drop at l) ++ take k (drop next l) ≡ take (j + k) (drop at l)
span_add at j k l e =
    ap (λ (x : List ℕ). take j (drop at l) ++ take k x) (ap (λ i. drop i l) e ∙ sym (drop-drop j at l)) ∙ sym (take-add j k (drop at l))

-- a row that is read is written back
module _ (l : List ℕ) (b : Bytes l) (at : ℕ) where
  pub node-back : at + 12 ≤ length l → node_bytes (node_at l at) ≡ take 12 (drop at l)
  unfolding node_bytes node_at
  node-back h =
      rw (
        bits-signed (word_at l at) (word_below l b at (omega arith)),
        word_back l b at (omega arith),
        word_back l b (at + 4) (omega arith),
        word_back l b (at + 8) (omega arith),
        span_add (at + 4) 4 4 l {next = at + 8} (omega arith),
      )
      (span_add at 4 8 l refl)

  pub edge-back : at + 20 ≤ length l → edge_bytes (edge_at l at) ≡ take 20 (drop at l)
  unfolding edge_bytes edge_at
  edge-back h =
      rw (
        word_back l b at (omega arith),
        word_back l b (at + 4) (omega arith),
        word_back l b (at + 8) (omega arith),
        word_back l b (at + 12) (omega arith),
        word_back l b (at + 16) (omega arith),
        span_add (at + 12) 4 4 l {next = at + 16} (omega arith),
        span_add (at + 8) 4 8 l {next = at + 12} (omega arith),
        span_add (at + 4) 4 12 l {next = at + 8} (omega arith),
      )
      (span_add at 4 16 l refl)

-- a row that is written is read back
word_in : (l : List ℕ) (at j : ℕ) (xs : List ℕ) (x : ℕ) → drop at l ≡ xs → take 4 (drop j xs) ≡ le 4 x → x < 2 ^ 32 → word_at l (at + j) ≡ x
unfolding number_at
word_in l at j xs x e t h = ap (λ (y : List ℕ). number (take 4 y)) (sym (drop-drop j at l) ∙ ap (drop j) e) ∙ ap number t ∙ number-le x h

first_in_lem : (l : List ℕ) (at : ℕ) (xs : List ℕ) (x : ℕ) → drop at l ≡ xs → take 4 xs ≡ le 4 x → x < 2 ^ 32 → word_at l at ≡ x
first_in_lem l at xs x e t h = rw (add-zero at) at (word_in l at 0 xs x e t h)

pub node-read : (l : List ℕ) (at : ℕ) (row : Node) (rest : List ℕ) → NodeFits row → drop at l ≡ node_bytes row ++ rest → node_at l at ≡ row
unfolding le node_bytes node_at
node-read l at row rest f e =
    let xs = node_bytes row ++ rest in
    rw (
      first_in_lem l at xs (bits row.weight) e refl (bits_below row.weight f.weight-fits),
      signed-bits row.weight f.weight-fits,
      word_in l at 4 xs row.outgoing.0 e refl f.outgoing_fits,
      word_in l at 8 xs row.incoming.0 e refl f.incoming_fits,
    )

pub edge-read : (l : List ℕ) (at : ℕ) (row : Edge) (rest : List ℕ) → EdgeFits row → drop at l ≡ edge_bytes row ++ rest → edge_at l at ≡ row
unfolding le edge_bytes edge_at
edge-read l at row rest f e =
    let xs = edge_bytes row ++ rest in
    rw (
      first_in_lem l at xs row.weight e refl f.weight-fits,
      word_in l at 4 xs row.outgoing.0 e refl f.outgoing_fits,
      word_in l at 8 xs row.incoming.0 e refl f.incoming_fits,
      word_in l at 12 xs row.source.0 e refl f.source_fits,
      word_in l at 16 xs row.target.0 e refl f.target_fits,
    )
