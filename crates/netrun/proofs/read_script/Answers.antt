use Rattle.std.proofs.Common.{rules, subst}
use Rattle.std.specs.Io.KnownBytes.{Consumes}
use Rattle.std.proofs.KnownBytes.{Consumes-trans}
use Rattle.netrun.proofs.Reading.{joined}
use Rattle.netrun.proofs.read_script.Goals as goal

pub loop-at-preserved : goal.loop-at-preserved
loop-at-preserved g c =
    let i = c.loop-at.invariant in
    let more = c.in_ok-more.ensures in
    let together = joined c.loop-at.at _ c.in_ok-more.more c.loop-at.script c.read.new.buf i.within more.bound.0 in
    record {
      long = search rules;
      within = search rules;
      bytes = subst (Consumes _ _) together (Consumes-trans _ _ _ _ _ i.bytes more.bytes.0);
    }
