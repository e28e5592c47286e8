use Rattle.std.proofs.Common.{◌≡◌, List, [], ◌∷◌, replicate, ℕ, sym, ap, subst, ◌∙◌}
use Rattle.atomic_table.specs.Table.{opening}
use Rattle.holders.specs.declared.fixed.Fixed.{Fixed}
use Rattle.store_core.specs.Knowledge.{opening_view}
use Rattle.store_steps.specs.Layout.{word_count}
use Rattle.store_steps.specs.Rule.{RuleHolds}
use Rattle.store_steps.proofs.Opening.{opens}
use Rattle.store_steps.proofs.words.Words.new.Goals as goal

pub of_words-requires : goal.of_words-requires
of_words-requires c =
    let fixed : Fixed = record { root = c.args.root; mode = c.args.mode; capacity = c.args.capacity; base = c.args.base } in
    let zeros : c.zeros.result.now ≡ replicate (word_count fixed) 0 =
    c.zeros.ensures ∙ ap (λ (n : ℕ). replicate n 0) c.word_count-count.ensures in
    subst (λ (words : List ℕ). RuleHolds fixed (opening words [] (opening_view fixed ∷ []))) (sym zeros) (opens fixed)

pub of_words-requires-else-count-le-ZEROS_LEN : goal.of_words-requires-else-count-le-ZEROS_LEN
of_words-requires-else-count-le-ZEROS_LEN c =
    let fixed : Fixed = record { root = c.args.root; mode = c.args.mode; capacity = c.args.capacity; base = c.args.base } in
    let zeros : c.as_slice.result.now ≡ replicate (word_count fixed) 0 =
    c.as_slice.ensures.value ∙ c.in_ok-zeros.ensures.items_if_clones_equal (λ y h. h) ∙ ap (λ (n : ℕ). replicate n 0) c.word_count-count.ensures in
    subst (λ (words : List ℕ). RuleHolds fixed (opening words [] (opening_view fixed ∷ []))) (sym zeros) (opens fixed)
