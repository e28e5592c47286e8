use Rattle.std.proofs.Common.{◌≡◌, ℕ, ◌-◌, ◌≤◌, List, ◌++◌, map}
use Rattle.bao_tasks.specs.Missing.{AreGaps, JudgesUnit, Tells, place_of, span_of}
use Rattle.bao_tasks.proofs.missing.parts_of.Given as goal

-- the gaps so far are those before a place, and what follows them from there on follows them
abbrev pub invariant-gaps : goal.invariant-gaps
invariant-gaps g l = record {
  within : l.from ≤ l.units;
  total : l.parts.total ≡ l.total;
  certified : l.parts.certified ≡ l.certified;
  looked : l.parts.looked ≡ place_of l.wanted.grain l.total l.units;
  count : l.parts.count ≤ l.from;
  bytes : l.parts.bytes ≤ place_of l.wanted.grain l.total l.from;
  gaps :
      (gaps : List (ℕ × ℕ)) × Tells l.most l.parts (map (span_of l.wanted.grain l.total) gaps)
      × ((rest : List (ℕ × ℕ)) → AreGaps (JudgesUnit g.S.Source.contents g.S.Source.faultless l.wanted l.sources) l.units l.from rest
      → AreGaps (JudgesUnit g.S.Source.contents g.S.Source.faultless l.wanted l.sources) l.units 0 (gaps ++ rest));
}

abbrev pub decreases-gaps : goal.decreases-gaps
decreases-gaps g l = l.units - l.from
