-- What a path and a row hold.
use Rattle.std.specs.Prelude.{◌≡◌, ℕ, false, cond, ◌&&◌, ◌↔◌, List, take, Some, None, Option, Result, nat_le, IsErrOf}
use Rattle.std.specs.Result.{result_ok}
use Rattle.paths.specs.Stations.{distinct, is_path, IsPathLength}
use Rattle.paths.specs.declared.path.NotAPath.{NotAPath}
use Rattle.paths.specs.declared.path.NotAPath.TheVariants.{Length, StationTwice}
use Rattle.paths.specs.declared.path.Path.{Path}
use Rattle.paths.specs.declared.row.Row.{Row}

-- the stations of a path
abbrev pub stations : Path → List ℕ
stations p = take p.len p.numbers

-- the stations in a row, at most the four that it has
abbrev pub row_stations : Row → List ℕ
row_stations r = take r.len r.numbers

-- a path as a row
abbrev pub row_of : Path → Row
row_of p = record { numbers = p.numbers; len = p.len }

-- the stations of a path, if there is one
abbrev pub stations_in : Option Path → Option (List ℕ)
stations_in None = None
stations_in (Some p) = Some (stations p)

-- the path in a row, where its length is within the row and its stations are those of a path
abbrev pub path_in : Row → Option (List ℕ)
path_in r = cond (nat_le r.len 4 && is_path (row_stations r)) (Some (row_stations r)) None

-- the result is the path in the row, or says why there is none: its length first, then a station that is named twice
pub record IsPathIn (r : Row) (result : Result Path NotAPath) : Type 0 where
  pub path : stations_in (result_ok result) ≡ path_in r
  pub length : IsErrOf result Length ↔ ¬ (IsPathLength r.len)
  pub twice : IsErrOf result StationTwice ↔ (IsPathLength r.len × (distinct (row_stations r) ≡ false))
