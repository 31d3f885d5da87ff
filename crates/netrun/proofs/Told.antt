-- What is printed of the bytes that were read is what is printed of the whole input: these are all of it, or both are too long.
use Rattle.std.proofs.Common.{◌≡◌, ℕ, ◌+◌, ◌≤◌, ◌<◌, List, ◌++◌, None, Some, IfSome, refl, sym, ap, ◌∙◌, subst, arith}
use Rattle.std.proofs.Common.{length, take, drop, append-nil, length-append, length-take-le}
use Rattle.std.proofs.lemmas.Bool.{lt-leb}
use Rattle.std.proofs.Math.Seq.{take-append_seam}
use Rattle.std.specs.declared.option.Option.{Option}
use Rattle.std.specs.Io.KnownBytes.{Appends, Consumes, IsAtEnd}
use native.Mathlib.Decide.{dec_lt}
use Rattle.printing.specs.Parts.{put}
use Rattle.script.specs.Script.{most_bytes, run}
use Rattle.telling.specs.Telling.{told_run}
use Rattle.telling.specs.Parts.{PrintsRun}

too_long : (s t : List ℕ) → most_bytes < length s → most_bytes < length t → run s most_bytes ≡ run t most_bytes
unfolding run
too_long s t h k = rw (lt-leb (length s) most_bytes h, lt-leb (length t) most_bytes k) refl

told_same : (s t : List ℕ) → most_bytes < length s → most_bytes < length t → told_run s ≡ told_run t
unfolding told_run
told_same s t h k = rw (too_long s t h k) refl

-- n bytes of a table that has room for one byte more than a script may have
pub told_of_all : (before after : Option (List ℕ)) (table : List ℕ) (n : ℕ) → most_bytes < length table → n ≤ length table
    → Consumes before after (take n table) → (n < length table → IsAtEnd after) → IfSome before (λ s. told_run (take n table) ≡ told_run s)
told_of_all None after table n long within read whole = tt
told_of_all (Some s) None table n long within read whole = absurd read
told_of_all (Some s) (Some rest) table n long within read whole =
    elim (dec_lt n (length table)) [
      | yes h ↦ ap told_run (sym (read ∙ ap (λ l. take n table ++ l) (whole h) ∙ append-nil (take n table)))
      | no h ↦
          let full : length (take n table) ≡ n = length-take-le n table within in
          let all = ap length read ∙ length-append (take n table) rest in
          told_same (take n table) s (omega arith) (omega arith)
    ]

-- what `tell_run` left at the front of its output
pub front : (script before after : List ℕ) (r : ℕ) → PrintsRun script before after r → take r after ≡ told_run script
unfolding put
front script before after r p =
    let text = told_run script in
    let rest = drop (0 + length text) before in
    ap (take r) p.writes.bytes_are ∙ ap (λ n. take n (text ++ rest)) (p.writes.ends_at ∙ omega arith) ∙ take-append_seam text rest

-- so a writer to which they were written holds what is printed of the input
pub appended : (before old new : Option (List ℕ)) (told wrote : List ℕ) → wrote ≡ told → IfSome before (λ s. told ≡ told_run s) → Appends old new wrote
    → IfSome before (λ s. Appends old new (told_run s))
appended None old new told wrote e same a = tt
appended (Some s) old new told wrote e same a = subst (Appends old new) (e ∙ same) a
