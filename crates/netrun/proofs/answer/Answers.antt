use Rattle.std.proofs.Common.{◌<◌, length, arith}
use Rattle.script.specs.Script.{most_bytes}
use Rattle.netrun.proofs.Told.{told_of_all, front, appended}
use Rattle.netrun.proofs.answer.Goals as goal

pub returns-in-Ok-write_all : goal.returns-in-Ok-write_all
returns-in-Ok-write_all g c =
    let read = c.in-Ok.ensures in
    let long : most_bytes < length c.read_script.new.script = omega (arith, c.read_script.auto.script) in
    appended
    _
    _
    _
    _
    _
    (front _ _ _ _ c.tell_run-written.ensures)
    (told_of_all _ _ c.read_script.new.script c.in-Ok.got long read.within.0 read.bytes read.whole)
    c.in-Ok-write_all.ensures.bytes
