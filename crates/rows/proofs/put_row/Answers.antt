-- Four numbers, one after the other.
use Prim.Native.Nat.{suc, ◌+◌}
use mathlib.Core.Path.{◌≡◌, ◌∙◌}
use mathlib.Core.List.{append_assoc}
use native.Mathlib.Omega.{arith}
use lib.ListN.{take, drop}
use lib.Seq.{sets-eq}
use Rattle.definition.specs.Rows.{flat}
use Rattle.definition.specs.Text.{put_at}
use Rattle.rows.proofs.put_row.Goals as goal

pub returns : goal.returns
unfolding put_at
returns c =
    let one : c.args.at + 1 ≡ suc c.args.at = omega arith in
    let two : c.args.at + 2 ≡ suc (suc c.args.at) = omega arith in
    let three : c.args.at + 3 ≡ suc (suc (suc c.args.at)) = omega arith in
    rw (one, two, three)
    (sets-eq (flat c.args.row) c.args.table.now c.args.at (omega (arith, c.requires))
    ∙ append_assoc (take c.args.at c.args.table.now) (flat c.args.row) (drop (c.args.at + 4) c.args.table.now))
