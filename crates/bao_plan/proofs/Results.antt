-- Facts of results that another one follows from.
use Rattle.std.proofs.Common.{Result, Ok, Err}
use Rattle.std.specs.Result.{IfOk, OnErr, OnOk}

pub on_err : {T E : Type 0} → (r : Result T E) (P : Type 0) → P → OnErr r P
on_err (Ok x) P p = tt
on_err (Err e) P p = p

pub ok_map : {T E : Type 0} → (r : Result T E) (P Q : Type 0) → (P → Q) → OnOk r P → OnOk r Q
ok_map (Ok x) P Q f p = f p
ok_map (Err e) P Q f p = p

pub err_map : {T E : Type 0} → (r : Result T E) (P Q : Type 0) → (P → Q) → OnErr r P → OnErr r Q
err_map (Ok x) P Q f p = p
err_map (Err e) P Q f p = f p

pub if_ok_map : {T E : Type 0} → (r : Result T E) (P Q : T → Type 0) → ((x : T) → P x → Q x) → IfOk r P → IfOk r Q
if_ok_map (Ok x) P Q f p = f x p
if_ok_map (Err e) P Q f p = p
