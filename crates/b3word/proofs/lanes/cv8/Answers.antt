use Rattle.std.proofs.Common.{◌≡◌, ℕ, ◌<◌, ◌%◌, ◌/◌, ◌^◌, List, [], ◌++◌, length, take, drop, map, slice_index_or, sym, ◌∙◌, arith, rules}
use Rattle.std.proofs.lemmas.List.{ext_get_or, get_or-map, length-map, take-append-drop}
use Rattle.b3word.specs.declared.input.Input.{Input}
use Rattle.b3word.specs.Compression.{cv}
use Rattle.b3word.proofs.EightLanes.{blank, mapped-at}
use Rattle.b3word.proofs.lanes.cv8.Goals as goal

pub returns : goal.returns
returns c =
    let xs : List Input = c.args.inputs.now in
    let each : (j : ℕ) → j < 8 → slice_index_or c.map-4.result j [] ≡ cv (slice_index_or xs j blank) = λ j l.
    let x : Input = slice_index_or xs j blank in
    let h = c.transposed-h.ensures.lanes j l ∙ mapped-at _ _ (λ x y. y ≡ x.h) xs c.map.result blank [] c.map.ensures.items (λ p x y q k. search rules) j l in
    let front = c.transposed-front.ensures.lanes j l ∙ mapped-at _ _ (λ x y. y ≡ take 8 x.m) xs c.map-2.result blank [] c.map-2.ensures.items (λ p x y q k. search rules) j l in
    let back = c.transposed-back.ensures.lanes j l ∙ mapped-at _ _ (λ x y. y ≡ drop 8 x.m) xs c.map-3.result blank [] c.map-3.ensures.items (λ p x y q k. search rules) j l in
    let m = c.joined-m.ensures j l ∙ (λ i. front i ++ back i) ∙ take-append-drop 8 x.m in
    let t_low = mapped-at _ _ (λ x y. y ≡ x.t % 2 ^ 32) xs c.map-t_low.result blank 0 c.map-t_low.ensures.items (λ p x y q k. search rules) j l in
    let t_high = mapped-at _ _ (λ x y. y ≡ x.t / 2 ^ 32) xs c.map-t_high.result blank 0 c.map-t_high.ensures.items (λ p x y q k. search rules) j l in
    let b = mapped-at _ _ (λ x y. y ≡ x.b) xs c.map-b.result blank 0 c.map-b.ensures.items (λ p x y q k. search rules) j l in
    let d = mapped-at _ _ (λ x y. y ≡ x.d) xs c.map-d.result blank 0 c.map-d.ensures.items (λ p x y q k. search rules) j l in
    mapped-at _ _ (λ x y. y ≡ x) c.transposed-rows.result c.map-4.result [] [] c.map-4.ensures.items (λ p x y q k. search rules) j l
    ∙ c.transposed-rows.ensures.vectors j l
    ∙ c.cv_lanes-values.ensures j x.t l t_low t_high
    ∙ (λ i. cv (record { h = h i; m = m i; t = x.t; b = b i; d = d i })) in
    let size : length c.map-4.result ≡ 8 = c.map-4.ensures.items.long in
    ext_get_or [] c.map-4.result (map cv xs) (size ∙ sym (length-map xs cv ∙ c.told-inputs))
    (λ j l. each j (omega arith) ∙ sym (get_or-map cv xs j blank [] (omega (arith, c.told-inputs))))
