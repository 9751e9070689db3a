-- Numbers of several bytes, of the widths of their fields.
use Rattle.std.specs.Prelude.{◌<◌, ◌^◌}
use Rattle.record.specs.declared.Caps.{Caps}
use Rattle.record.specs.declared.Area.{Area}

pub record CapsFit (caps : Caps) : Type 0 where
  pub min : caps.min < 256 ^ 2
  pub max : caps.max < 256 ^ 2
  pub over : caps.over < 256 ^ 2

pub record AreaFits (area : Area) : Type 0 where
  pub address : area.address < 256 ^ 8
  pub size : area.size < 256 ^ 4
