-- After i turns the first i rows are stored, and the columns have all their rows.
use Rattle.std.proofs.Common.{◌≡◌, ℕ, ◌+◌, ◌*◌, ◌<◌}
use Rattle.tables.specs.Net.{net}
use Rattle.imagerows.specs.Image.{each}
use Rattle.imagerows.proofs.parts.store_rows.Given as goal

abbrev pub invariant-loop-i : goal.invariant-loop-i
invariant-loop-i g l =
    let t = g.R.TableRow in
    let r = g.R.Row in
    record {
      has : (k : ℕ) → k < l.rows → t.Has (net l.weights l.heads l.registers l.links l.ends 0 0) k;
      is : (n m : ℕ) → net l.weights l.heads l.registers l.links l.ends n m
          ≡ each (λ h i. t.with_row h i (r.row_at l.bytes (l.first + r.BYTES * i))) l.i
          (net l.fn.weights l.fn.heads l.fn.registers l.fn.links l.fn.ends n m);
    }
