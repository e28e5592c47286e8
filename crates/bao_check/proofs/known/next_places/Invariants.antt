use Rattle.bao_check.specs.Known.{AreThere}
use Rattle.bao_check.proofs.known.next_places.Given as goal

abbrev pub invariant-loop : goal.invariant-loop
invariant-loop l = AreThere l.bytes l.places.items
