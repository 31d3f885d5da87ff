use Rattle.std.proofs.Common.{◌≡◌, ◌∙◌, ap, sym, subst, arith}
use Rattle.tables.specs.Net.{Net, net}
use Rattle.imagerows.proofs.Turns.{none-stored, row_stored}
use Rattle.imagerows.proofs.parts.store_rows.Goals as goal

pub loop-i-init : goal.loop-i-init
loop-i-init g c = record { has = c.requires.has; is = λ n m. none-stored _ _ }

pub loop-i-preserved : goal.loop-i-preserved
loop-i-preserved g c =
    let l = c.loop-i in
    let t = g.R.TableRow in
    let law = g.met.R.TableRow in
    record {
      has = λ k h. subst (λ (x : Net). t.Has x k) (sym (c.store.ensures 0 0)) (law.has_still _ l.i k _ (l.invariant.has k h));
      is = λ n m.
          row_stored _ l.i _ (l.invariant.is n m)
          (c.store.ensures n m ∙ ap (t.with_row (net l.weights l.heads l.registers l.links l.ends n m) l.i) (rw c.BYTES.ensures at c.at-row.ensures));
    }

pub returns : goal.returns
returns g c = λ n m. let e : c.loop-i.i ≡ c.args.rows = omega arith in rw e at (c.loop-i.invariant.is n m)
