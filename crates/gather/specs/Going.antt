-- A seat goes on and on.
use Rattle.std.proofs.Common.{◌≡◌, ℕ, ◌+◌, List, [], ◌++◌, append_assoc, append-nil, map, refl, sym, ap, subst, ◌∙◌}
use Rattle.std.proofs.lemmas.List.Sums.{sum_by-append}
use Rattle.std.specs.List.{AllByRecursion}
use Rattle.bao_check.proofs.Lists.{All-append}
use Rattle.gather.specs.Seats.{GoneOn, fixed_of}
use Rattle.gather.specs.Counts.{Goes}
use Rattle.holders.specs.Holders.{IsNone}
use Rattle.gather.specs.Working.{from_wider}
use Rattle.holders.specs.declared.piece.Piece.{Piece}
use Rattle.gather.specs.Worked.{IsFrom, chunks_in, parents_in, parents_of}
use Rattle.store_core.specs.declared.history.Event.{Event}
use Rattle.store_core.specs.declared.view.Named.{Named}
use Rattle.store_core.specs.Laws.{chunks_of}
use Rattle.store_core.specs.Views.{mine, names_of}
use Rattle.store_shared.specs.Seats.{Gripped}

stays : (s : Gripped) → GoneOn IsNone s s 0 0
stays s = record {
  fixed_is = refl;
  names_are = refl;
  more = [];
  seen_is = sym (append-nil s.view.seen);
  own = [];
  by = tt;
  from = tt;
  mine_is = sym (append-nil (mine s.view));
  counts = refl;
  counts_parents = refl;
}

adds : (handed : Piece → Type 0) (r s t : Gripped) (m n p q : ℕ) → GoneOn handed r s m p → GoneOn handed s t n q → GoneOn handed r t (m + n) (p + q)
adds handed r s t m n p q first second = record {
  fixed_is = second.fixed_is ∙ first.fixed_is;
  names_are = second.names_are ∙ first.names_are;
  more = first.more ++ second.more;
  seen_is = second.seen_is ∙ ap (λ (seen : List Event). seen ++ second.more) first.seen_is ∙ append_assoc r.view.seen first.more second.more;
  own = first.own ++ second.own;
  by = All-append (λ (e : Event). e.who ≡ names_of r.view) first.own second.own first.by
      (subst (λ (ns : List Named). AllByRecursion (λ (e : Event). e.who ≡ map (λ (named : Named). named.name) ns) second.own) first.names_are second.by);
  from = All-append (λ (e : Event). IsFrom handed e.call) first.own second.own first.from second.from;
  mine_is = second.mine_is ∙ ap (λ (own : List Event). own ++ second.own) first.mine_is ∙ append_assoc (mine r.view) first.own second.own;
  counts = ap (λ (k : ℕ). k + n) first.counts ∙ ap (λ (k : ℕ). chunks_in first.own + k) second.counts ∙ sym (sum_by-append (λ (e : Event). chunks_of e.call) first.own second.own);
  counts_parents = ap (λ (k : ℕ). k + q) first.counts_parents ∙ ap (λ (k : ℕ). parents_in first.own + k) second.counts_parents ∙ sym (sum_by-append (λ (e : Event). parents_of e.call) first.own second.own);
}

keeps : (handed : Piece → Type 0) (s t : Gripped) (n q : ℕ) → GoneOn handed s t n q → fixed_of t ≡ fixed_of s
keeps handed s t n q gone = gone.fixed_is

wider : (handed more : Piece → Type 0) → ((piece : Piece) → handed piece → more piece) → (s t : Gripped) (n q : ℕ) → GoneOn handed s t n q → GoneOn more s t n q
wider handed more of s t n q gone = record {
  fixed_is = gone.fixed_is;
  names_are = gone.names_are;
  more = gone.more;
  seen_is = gone.seen_is;
  own = gone.own;
  by = gone.by;
  from = from_wider handed more of gone.own gone.from;
  mine_is = gone.mine_is;
  counts = gone.counts;
  counts_parents = gone.counts_parents;
}

pub goes : Goes fixed_of GoneOn
goes = record { stays = stays; keeps = keeps; adds = adds; wider = wider }
