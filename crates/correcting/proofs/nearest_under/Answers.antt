-- `correcting::nearest_under` meets its contract. Assumes nothing.
use Rattle.correcting.proofs.Correcting.{beside_asks, nearest_asks, of_all}
use Rattle.correcting.proofs.nearest_under.Goals as goal

pub beside-requires : goal.beside-requires
beside-requires c = beside_asks _ _ _ _ _ _ c.requires

pub returns-in-Some : goal.returns-in-Some
returns-in-Some c =
    of_all _ _ _ _ _ _ c.requires _ c.in-Some.ensures

pub nearest-requires : goal.nearest-requires
nearest-requires c =
    nearest_asks _ _ _ _ _ _ c.requires _ c.fill.ensures

pub returns : goal.returns
returns c = of_all _ _ _ _ _ _ c.requires _ c.nearest.ensures
