use Rattle.std.proofs.Common.{None}
use Rattle.bao_decode.proofs.Copying.{first_known, first_unknown, flushed_known, flushed_some, flushed_unknown, second_known, second_unknown}
use Rattle.bao_decode.proofs.plain_copy.write_copy.Goals as goal

pub returns-in-Err-clause-known : goal.returns-in-Err-clause-known
returns-in-Err-clause-known g c =
    let contents = g.S.Source.contents c.args.copy.now in
    let faultless = g.S.Source.faultless c.args.copy.now in
    let o = c.args.outline.now in
    let old = g.W.Write.contents c.args.out.now in
    first_known contents faultless o c.args.file c.args.path old None None c.in-Err.fault c.first_fault.result c.first_fault.ensures c.in-Err.ensures.err

pub returns-in-Err-clause-fault : goal.returns-in-Err-clause-fault
returns-in-Err-clause-fault g c = first_unknown c.args.file c.args.path (g.W.Write.contents c.args.out.now) c.in-Err.fault c.first_fault.result c.first_fault.ensures

pub returns-in-Ok-copy_pass-2-clause-some : goal.returns-in-Ok-copy_pass-2-clause-some
returns-in-Ok-copy_pass-2-clause-some g c =
    let contents = g.S.Source.contents c.args.copy.now in
    let faultless = g.S.Source.faultless c.args.copy.now in
    let o = c.args.outline.now in
    let old = g.W.Write.contents c.args.out.now in
    let done = c.in-Ok-copy_pass-2.ensures.ok in
    flushed_some o c.args.path contents old (g.W.Write.contents c.copy_pass-2.new.out) (g.W.Write.contents c.flushed.new.out) done.0 c.in-Ok-copy_pass-2.count c.flushed.result
    done.1 done.2 done.3 c.flushed.ensures.keeps c.flushed.ensures.ok

pub returns-in-Ok-copy_pass-2-clause-known : goal.returns-in-Ok-copy_pass-2-clause-known
returns-in-Ok-copy_pass-2-clause-known g c =
    let contents = g.S.Source.contents c.args.copy.now in
    let faultless = g.S.Source.faultless c.args.copy.now in
    let o = c.args.outline.now in
    let old = g.W.Write.contents c.args.out.now in
    let done = c.in-Ok-copy_pass-2.ensures.ok in
    flushed_known contents faultless o c.args.file c.args.path old (g.W.Write.contents c.copy_pass-2.new.out) (g.W.Write.contents c.flushed.new.out) done.0
    c.in-Ok-copy_pass-2.count c.flushed.result done.1 done.2 done.3 c.flushed.ensures.keeps c.flushed.ensures.ok c.flushed.ensures.err

pub returns-in-Ok-copy_pass-2-clause-fault : goal.returns-in-Ok-copy_pass-2-clause-fault
returns-in-Ok-copy_pass-2-clause-fault g c =
    flushed_unknown c.args.file c.args.path (g.W.Write.contents c.args.out.now) (g.W.Write.contents c.flushed.new.out) c.flushed.result c.flushed.ensures.err

pub returns-clause-known : goal.returns-clause-known
returns-clause-known g c =
    let contents = g.S.Source.contents c.args.copy.now in
    let faultless = g.S.Source.faultless c.args.copy.now in
    let o = c.args.outline.now in
    let old = g.W.Write.contents c.args.out.now in
    let done = c.in-Ok-copy_pass.ensures.ok in
    second_known contents faultless o c.args.file c.args.path old (g.W.Write.contents c.copy_pass-2.new.out) done.0 c.in-Err-copy_pass.fault c.second_fault.result
    c.second_fault.ensures done.1 c.in-Err-copy_pass.ensures.err

pub returns-clause-fault : goal.returns-clause-fault
returns-clause-fault g c =
    second_unknown c.args.file c.args.path (g.W.Write.contents c.args.out.now) (g.W.Write.contents c.copy_pass-2.new.out) c.in-Err-copy_pass.fault c.second_fault.result
    c.second_fault.ensures
