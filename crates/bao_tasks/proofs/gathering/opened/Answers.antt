use Rattle.std.proofs.Common.{◌≡◌, ℕ, ◌*◌, Bool, Some, IfOk, IfSome, take, arith, inl, inr, sym, subst}
use Rattle.bao_files.specs.Disks.{FileState}
use Rattle.bao_windows.specs.Available.{CertifiesEnd}
use Rattle.bao_tasks.specs.Givens.{given_contents, is_given_faultless, most_bytes, shown_contents, shown_faultless}
use Rattle.bao_tasks.proofs.Opening.{IsOpened, placed_source, read_source, surely}
use Rattle.bao_tasks.proofs.gathering.opened.Goals as goal

pub returns-then-regular-clause-source : goal.returns-then-regular-clause-source
returns-then-regular-clause-source g c =
    let how = c.args.how.now in
    let state : FileState = g.D.Disk.at c.args.disk.now c.args.path.now in
    let contents = shown_contents {P = g.row.P.Denot} (given_contents g.D.Input.Source.contents) in
    let faultless = shown_faultless {P = g.row.P.Denot} (is_given_faultless g.D.Input.Source.faultless) in
    let Certified : ℕ → Type 0 = λ n. (place : ℕ) × CertifiesEnd contents faultless how.wanted c.args.taken.now.givens.items place n in
    subst (λ (regular : Bool). IfOk c.placed.result
    (IsOpened g.D.Input.Source.contents g.D.Input.Source.faultless (g.D.Disk.faultless c.args.disk.now) how.long how.capacity Certified (λ n. most_bytes how.wanted.form n) state regular))
    (sym c.if-regular.true)
    (placed_source g.D.Input.Source.contents g.D.Input.Source.faultless (g.D.Disk.faultless c.args.disk.now) how.long how.capacity Certified (λ n. most_bytes how.wanted.form n) state
    c.placed.result c.placed.ensures.bytes c.placed.ensures.sure)

pub returns-clause-source : goal.returns-clause-source
returns-clause-source g c =
    let how = c.args.how.now in
    let state : FileState = g.D.Disk.at c.args.disk.now c.args.path.now in
    let contents = shown_contents {P = g.row.P.Denot} (given_contents g.D.Input.Source.contents) in
    let faultless = shown_faultless {P = g.row.P.Denot} (is_given_faultless g.D.Input.Source.faultless) in
    let Certified : ℕ → Type 0 = λ n. (place : ℕ) × CertifiesEnd contents faultless how.wanted c.args.taken.now.givens.items place n in
    subst (λ (regular : Bool). IfOk c.spooled.result
    (IsOpened g.D.Input.Source.contents g.D.Input.Source.faultless (g.D.Disk.faultless c.args.disk.now) how.long how.capacity Certified (λ n. most_bytes how.wanted.form n) state regular))
    (sym c.if-regular.false)
    (read_source g.D.Input.Source.contents g.D.Input.Source.faultless (g.D.Disk.faultless c.args.disk.now) how.long how.capacity Certified (λ n. most_bytes how.wanted.form n) state
    c.spooled.result c.reach.result c.most_bytes-most.result (g.D.Input.Source.contents c.in_ok-input.input) (g.D.Input.Read.remaining c.in_ok-input.input) c.most_bytes-most.ensures
    (inr (c.if-how.true, c.reach.ensures)) c.in_ok-input.ensures.opened c.spooled.ensures.bytes c.spooled.ensures.sure)

pub returns-2-clause-source : goal.returns-2-clause-source
returns-2-clause-source g c =
    let how = c.args.how.now in
    let state : FileState = g.D.Disk.at c.args.disk.now c.args.path.now in
    let contents = shown_contents {P = g.row.P.Denot} (given_contents g.D.Input.Source.contents) in
    let faultless = shown_faultless {P = g.row.P.Denot} (is_given_faultless g.D.Input.Source.faultless) in
    let Certified : ℕ → Type 0 = λ n. (place : ℕ) × CertifiesEnd contents faultless how.wanted c.args.taken.now.givens.items place n in
    let sure : Type 0 = g.D.Disk.faultless c.args.disk.now in
    let all : 1024 * c.from.result ≡ 1024 * how.capacity = omega (arith, c.from.ensures) in
    subst (λ (regular : Bool). IfOk c.held.result
    (IsOpened g.D.Input.Source.contents g.D.Input.Source.faultless sure how.long how.capacity Certified (λ n. most_bytes how.wanted.form n) state regular))
    (sym c.if-regular.false)
    (read_source g.D.Input.Source.contents g.D.Input.Source.faultless sure how.long how.capacity Certified (λ n. most_bytes how.wanted.form n) state
    c.held.result (1024 * c.from.result) c.most_bytes-most-2.result (g.D.Input.Source.contents c.in_ok-input.input) (g.D.Input.Read.remaining c.in_ok-input.input) c.most_bytes-most-2.ensures
    (inl all) c.in_ok-input.ensures.opened
    (surely sure (λ made. IfSome (g.D.Input.Read.remaining c.in_ok-input.input) (λ left. given_contents g.D.Input.Source.contents made.given ≡ Some (take c.most_bytes-most-2.result left))) c.held.result c.held.ensures.bytes)
    (surely sure (λ made. is_given_faultless g.D.Input.Source.faultless made.given) c.held.result c.held.ensures.sure))
