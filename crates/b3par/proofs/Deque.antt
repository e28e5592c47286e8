-- Each move keeps every task a job, and the next of what the thread put or took.
use Rattle.std.proofs.Common.{◌≡◌, ℕ, All, List, ◌++◌, length, refl, subst}
use lib.Seq.{take-append_seam, drop-append_seam}
use Rattle.std.proofs.lemmas.List.Elements.{All-take, All-drop}
use Rattle.crossbeam_deque.specs.Tasks.{Takes}
use Rattle.b3par.specs.declared.jobs.Job.{Job}
use Rattle.b3par.specs.Jobs.{IsJob}

abbrev Holds : List Job → List (List Job) → Type 0
Holds items _ = All IsJob items

pub left : (P : Job → Type 0) (xs ys : List Job) → All P (xs ++ ys) → All P xs
left P xs ys h = subst (All P) (take-append_seam xs ys) (All-take P (length xs) (xs ++ ys) h)

pub right : (P : Job → Type 0) (xs ys : List Job) → All P (xs ++ ys) → All P ys
right P xs ys h = subst (All P) (drop-append_seam xs ys) (All-drop P (length xs) (xs ++ ys) h)

pub takes : (port : ℕ) (log : List Job) (most : ℕ) → Takes Holds port log most (λ xs more. (more ≡ log ++ xs) × All IsJob xs)
takes port log most xs items logs _ _ h _ = (log ++ xs, right IsJob xs items h, (refl, left IsJob xs items h))
