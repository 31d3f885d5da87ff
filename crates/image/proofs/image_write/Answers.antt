-- Past the tests the image is given.
use Rattle.std.proofs.Common.{◌≡◌, ◌∙◌, length}
use Rattle.tables.specs.Net.{net_of}
use Rattle.tables.specs.Answers.{out, done, onto}
use Rattle.tables.proofs.Guards.{guards}
use Rattle.imagerows.specs.Image.{image_of}
use Rattle.image.specs.Calls.{image_write}
use Rattle.image.proofs.Served.{rooms, image_given}
use Rattle.image.proofs.image_write.Goals as goal

pub returns : goal.returns
unfolding image_write
returns c =
    let g = net_of c.args.net in
    let past : out (done (length (image_of g))) (onto (image_of g) c.args.bytes.now) ≡ image_write g c.args.bytes.now = search (guards, rooms) depth 9 in
    image_given g _ c.image_length-length.ensures c.write.ensures ∙ past
