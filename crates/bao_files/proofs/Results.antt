-- What follows of a result or an option.
use Rattle.std.proofs.Common.{Option, Some, None, Result, Ok, Err, IfOk, IfErr, IfSome}

-- what follows where there is a result
pub with_fault : {X E : Type 0} {Q : E → Type 0} (result : Result X E) (P : E → Type 0) → ((e : E) → P e → Q e) → IfErr result P → IfErr result Q
with_fault (Ok x) P follows p = tt
with_fault (Err e) P follows p = follows e p

pub with_right : {X E : Type 0} {Q : X → Type 0} (result : Result X E) (P : X → Type 0) → ((x : X) → P x → Q x) → IfOk result P → IfOk result Q
with_right (Ok x) P follows p = follows x p
with_right (Err e) P follows p = tt

pub with_some : {X : Type 0} {Q : X → Type 0} (known : Option X) (P : X → Type 0) → ((x : X) → P x → Q x) → IfSome known P → IfSome known Q
with_some None P follows p = tt
with_some (Some x) P follows p = follows x p

pub if_some : {X : Type 0} {Q : X → Type 0} (known : Option X) → ((x : X) → Q x) → IfSome known Q
if_some None each = tt
if_some (Some x) each = each x
