use Rattle.std.proofs.Common.{Option, List, ℕ, sym, ap, subst}
use Rattle.ice_tables.specs.Tables.{Row}
use Rattle.ice_names.specs.Names.{path_of}
use Rattle.ice_names.specs.Bytes.{IsRowBytes}
use Rattle.ice_names.proofs.ByteLaws.{free_bytes}
use Rattle.ice_names.proofs.row.bytes_of.Goals as goal

pub bytes_of_cube-requires : goal.bytes_of_cube-requires
bytes_of_cube-requires c = c.requires c.in-Some.row.path (ap path_of c.in-Some.is)

pub returns-in-None : goal.returns-in-None
returns-in-None c = subst (λ (x : List ℕ). IsRowBytes c.args.row.now x) (sym c.no_bytes.ensures)
    (subst (λ (x : Option Row). IsRowBytes x _) (sym c.in-None.is) free_bytes)
