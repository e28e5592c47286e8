use Rattle.std.proofs.Common.{◌≡◌, ◌∙◌, drop, length, length-take-le, take, arith}
use Rattle.holders.specs.Pieces.{piece_of}
use Rattle.berylwool.specs.Calls.{slice_piece}
use Rattle.berylwool.specs.Decoding.{asked_size}
use Rattle.berylwool.proofs.Bytes.{decoded_bytes, decoded_rest}
use Rattle.berylwool.proofs.Texts.{piece_is, refused}
use Rattle.berylwool.proofs.decoding.bw_decode.Goals as goal

pub copied-requires : goal.copied-requires
copied-requires c = omega (arith, c.asked-size.ensures.end, c.if-size-out.false, length-take-le c.asked-size.result c.args.out.now (omega (arith, c.if-size-out.false)))

pub returns-in-Some-clause-bytes : goal.returns-in-Some-clause-bytes
returns-in-Some-clause-bytes c = λ _.
    let room = take c.asked-size.result c.args.out.now in
    let cut : length room ≡ c.asked-size.result = length-take-le c.asked-size.result c.args.out.now (omega (arith, c.if-size-out.false)) in
    decoded_bytes (piece_of 0 c.in-Ok.piece) (slice_piece 0 c.args.text.now c.args.slice.now.start c.args.slice.now.len) c.args.slice.now.start (asked_size c.args.text.now c.args.slice.now.start c.args.slice.now.len) c.copied.result
    room c.copied.new.out (drop c.asked-size.result c.args.out.now)
    (piece_is 0 c.in-Ok.piece c.get.result c.args.slice.now.root c.args.slice.now.start c.args.slice.now.len c.args.text.now c.in-Ok.ensures.piece) (cut ∙ c.asked-size.ensures.value)
    (omega (arith, c.copied.ensures.within, c.copied.ensures.size)) c.copied.ensures.bytes

pub returns-in-None-clause-bytes : goal.returns-in-None-clause-bytes
returns-in-None-clause-bytes c = λ _.
    let room = take c.asked-size.result c.args.out.now in
    let cut : length room ≡ c.asked-size.result = length-take-le c.asked-size.result c.args.out.now (omega (arith, c.if-size-out.false)) in
    decoded_bytes (piece_of 0 c.in-Ok.piece) (slice_piece 0 c.args.text.now c.args.slice.now.start c.args.slice.now.len) c.args.slice.now.start (asked_size c.args.text.now c.args.slice.now.start c.args.slice.now.len) c.copied.result
    room c.copied.new.out (drop c.asked-size.result c.args.out.now)
    (piece_is 0 c.in-Ok.piece c.get.result c.args.slice.now.root c.args.slice.now.start c.args.slice.now.len c.args.text.now c.in-Ok.ensures.piece) (cut ∙ c.asked-size.ensures.value)
    (omega (arith, c.copied.ensures.within, c.copied.ensures.size)) c.copied.ensures.bytes

pub returns-in-Some-clause-rest : goal.returns-in-Some-clause-rest
returns-in-Some-clause-rest c = λ _.
    decoded_rest c.copied.result c.asked-size.result c.args.out.now c.copied.new.out (omega (arith, c.copied.ensures.within, c.copied.ensures.size)) c.copied.ensures.size c.copied.ensures.rest

pub returns-in-None-clause-rest : goal.returns-in-None-clause-rest
returns-in-None-clause-rest c = λ _.
    decoded_rest c.copied.result c.asked-size.result c.args.out.now c.copied.new.out (omega (arith, c.copied.ensures.within, c.copied.ensures.size)) c.copied.ensures.size c.copied.ensures.rest

pub returns-in-Err-clause-fault : goal.returns-in-Err-clause-fault
returns-in-Err-clause-fault c = λ _ _ _.
    refused c.get.result _ c.args.slice.now.root c.args.text.now _ c.in-Err.fault _ _ c.get.ensures c.told.ensures.status c.in-Err.ensures.fault
