-- Text put into bytes, one byte or one text after the other. Assumes nothing.
use Prim.Native.Nat.{ℕ, suc, ◌+◌, ◌≤◌, ◌<◌}
use mathlib.Core.Path.{◌≡◌, sym, ap, ◌∙◌}
use mathlib.Core.List.{List, [], ◌∷◌, ◌++◌}
use native.Mathlib.Nat.{add-zero, add-suc, suc-add}
use native.Mathlib.Omega.{arith}
use lib.ListN.{length, set, length-append}
use lib.Seq.{sets, sets-eq, length-sets}
use Rattle.printing.specs.Parts.{put, Writes}

-- byte by byte
pub put_is : (bytes : List ℕ) (at : ℕ) (text : List ℕ) → at + length text ≤ length bytes → sets bytes at text ≡ put bytes at text
unfolding put
put_is bytes at text h = sets-eq text bytes at h

pub length-put : (bytes : List ℕ) (at : ℕ) (text : List ℕ) → at + length text ≤ length bytes → length (put bytes at text) ≡ length bytes
length-put bytes at text h = ap length (sym (put_is bytes at text h)) ∙ length-sets bytes at text

sets_on : (bytes : List ℕ) (at : ℕ) (xs ys : List ℕ) → sets (sets bytes at xs) (at + length xs) ys ≡ sets bytes at (xs ++ ys)
sets_on bytes at [] ys = ap (λ n. sets bytes n ys) (add-zero at)
sets_on bytes at (x ∷ xs) ys =
    ap (λ n. sets (sets (set bytes at x) (suc at) xs) n ys) (add-suc at (length xs) ∙ sym (suc-add at (length xs)))
    ∙ sets_on (set bytes at x) (suc at) xs ys

-- a text behind a text
pub put_on : (bytes : List ℕ) (at : ℕ) (xs ys : List ℕ) → at + length xs + length ys ≤ length bytes
    → put (put bytes at xs) (at + length xs) ys ≡ put bytes at (xs ++ ys)
put_on bytes at xs ys h =
    let l = length-put bytes at xs (omega arith) in
    sym (put_is (put bytes at xs) (at + length xs) ys (rw l h))
    ∙ ap (λ b. sets b (at + length xs) ys) (sym (put_is bytes at xs (omega arith)))
    ∙ sets_on bytes at xs ys
    ∙ put_is bytes at (xs ++ ys) (rw (length-append xs ys) (omega arith))

-- one byte
pub put_byte : (bytes : List ℕ) (at b : ℕ) → at < length bytes → set bytes at b ≡ put bytes at (b ∷ [])
put_byte bytes at b h = put_is bytes at (b ∷ []) (omega arith)

pub put-nothing : (bytes : List ℕ) (at : ℕ) → at ≤ length bytes → bytes ≡ put bytes at []
put-nothing bytes at h = put_is bytes at [] (omega arith)

-- a part that writes and then a part that writes on write one text
pub writes_on : {before between after : List ℕ} {at : ℕ} {xs ys : List ℕ} {r s : ℕ} → at + length xs + length ys ≤ length before
    → Writes before between at xs r → Writes between after r ys s → Writes before after at (xs ++ ys) s
writes_on {before} {between} {after} {at} {xs} {ys} {r} {s} h v w =
    record {
      bytes_are =
          w.bytes_are ∙ ap (λ n. put between n ys) v.ends_at ∙ ap (λ b. put b (at + length xs) ys) v.bytes_are ∙ put_on before at xs ys h;
      ends_at = omega (arith, length-append xs ys, v.ends_at, w.ends_at);
    }

-- what a loop has still to write, before and after a part has written some of it
pub writes_some : {out after : List ℕ} {to r : ℕ} (xs ys : List ℕ) → Writes out after to xs r → to + length xs ≤ length out
    → sets after r ys ≡ sets out to (xs ++ ys)
writes_some {out} {after} {to} {r} xs ys w h =
    ap (λ n. sets after n ys) w.ends_at ∙ ap (λ b. sets b (to + length xs) ys) (w.bytes_are ∙ sym (put_is out to xs h)) ∙ sets_on out to xs ys
