-- The sides of a bus, and the side that makes a move.
use Rattle.std.specs.Prelude.{ℕ}
use Rattle.lapd_bus.specs.declared.bus_move.BusMove.{BusMove}
use Rattle.lapd_bus.specs.declared.bus_move.BusMove.TheVariants as move
use Rattle.lapd_bus.specs.declared.bus_move.Station.{Station}
use Rattle.lapd_bus.specs.declared.bus_move.Station.TheVariants as station

-- the index of the terminal on whose line a side makes a move
abbrev pub index_of : Station → ℕ
index_of (station.Terminal at) = at
index_of (station.Network at) = at

abbrev pub station_of : BusMove → Station
station_of (move.Take at) = at
station_of (move.Lose at place) = at
station_of (move.Expire at) = at
station_of (move.Ask at request) = at
