use Rattle.dirimage.proofs.Served.{load_filled, read_fits}
use Rattle.dirimage.proofs.image_read.Goals as goal

pub fill_by-requires : goal.fill_by-requires
fill_by-requires c = read_fits _ _ _ c.image_read-told.result c.image_read-told.ensures

pub returns : goal.returns
returns c = load_filled _ _ _ _ c.image_read-told.ensures c.fill_by.ensures
