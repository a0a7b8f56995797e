use Rattle.std.proofs.Common.{◌∷◌, get_or, take}
use Rattle.std.specs.Fmt.{HasWritten, IsPlainFormatter}
use Rattle.paths.specs.Paths.{stations}
use Rattle.paths.specs.Stations.{stations_text}
use Rattle.paths.proofs.path.PathDisplay.fmt.Given as goal

-- the first station and those so far are written
abbrev pub invariant-loop-station : goal.invariant-loop-station
invariant-loop-station g l =
    IsPlainFormatter l.fn.f → HasWritten g.W.Write.write_str_gives l.fn.f (stations_text (get_or (stations l.self) 0 0 ∷ take l.station-index l.rest)) l.f
