-- What an error that `?` passes on is.
use Rattle.std.proofs.Common.{◌≡◌, Result, Err, ap, subst}
use Rattle.std.proofs.lemmas.Result.{err_from_is_err_and}
use Rattle.std.specs.Result.{IsErrAnd}

-- what holds of the error that was passed on holds of the one that came
pub passed_on : {T E : Type 0} (P : E → Type 0) (r : Result T E) (was is : E) → IsErrAnd r (λ e. e ≡ was) → r ≡ Err is → P was → P is
passed_on P r was is passes came h =
    let p = err_from_is_err_and r passes in
    let came_as : r ≡ Err p.0 = p.1 in
    let was_as : p.0 ≡ was = p.2 in
    let same : was ≡ is = cc in
    subst P same h

-- it is the error that came, of another result
pub same_error : {S T E : Type 0} (r : Result T E) (was is : E) → IsErrAnd r (λ e. e ≡ was) → r ≡ Err is → ◌≡◌ {A = Result S E} (Err was) (Err is)
same_error r was is passes came =
    let p = err_from_is_err_and r passes in
    let came_as : r ≡ Err p.0 = p.1 in
    let was_as : p.0 ≡ was = p.2 in
    let same : was ≡ is = cc in
    ap Err same
