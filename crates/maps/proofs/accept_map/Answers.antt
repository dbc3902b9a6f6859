-- `accept_map` stores the map where its judge finds nothing, and else keeps all as it was.
use mathlib.Core.Path.{sym}
use native.Mathlib.Omega.{arith}
use lib.ListN.{length-take, length-drop}
use Rattle.std.proofs.lemmas.Result.{err_from_is_err_and}
use Rattle.hashing.proofs.Answers.{numbered}
use Rattle.maps.specs.Promises.{accept_map_says}
use Rattle.maps.specs.Session.{GoesIn}
use Rattle.maps.specs.Writes.{counter_in, map_in}
use Rattle.maps.proofs.Judged.{accepting_clear}
use Rattle.maps.proofs.Keeping.{goes_in, stays}
use Rattle.maps.proofs.accept_map.Goals as goal
use Rattle.maps.proofs.accept_map.Goals.{In_ok-accepting}

-- past the judge the record goes in
clear : (c : In_ok-accepting) →
    let given = c.args in
    GoesIn given.level given.session_key.now given.kart given.bytes.now given.map.now given.last
clear c =
    let given = c.args in
    accepting_clear given.level given.session_key.now given.kart given.bytes.now given.map.now given.last (sym c.in_ok-accepting.ensures)

pub returns-in_err-accepting : goal.returns-in_err-accepting
unfolding accept_map_says
returns-in_err-accepting c =
    let p = err_from_is_err_and c.from_residual.result c.from_residual.ensures.1 in
    let refusal = c.in_err-accepting.field-0.0 in
    rw (p.1, p.2) (sym (stays _ _ c.in_err-accepting.ensures (numbered refusal)))

pub returns : goal.returns
unfolding accept_map_says counter_in map_in
returns c = rw (goes_in _ _ (sym c.in_ok-accepting.ensures), c.copy.ensures, c.four.ensures)

pub slice_bounds-copy-end : goal.slice_bounds-copy-end
slice_bounds-copy-end c = omega (arith, (clear (goal.at.slice_bounds-copy-end c).In_ok-accepting).form.whole)

pub copy-requires : goal.copy-requires
copy-requires c = let form = (clear (goal.at.copy-requires c).In_ok-accepting).form in simp (length-take, length-drop) (omega (arith, form.whole, form.map_size))
