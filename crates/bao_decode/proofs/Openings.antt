-- The bytes of a file that was opened.
use Rattle.std.proofs.Common.{◌≡◌, ℕ, List, Option, None, Some, IfSome, IsSome, refl, sym, subst}
use Rattle.b3tree.specs.Valid.{AreBytes}
use Rattle.bao_files.specs.Disks.{FileState, Unknown, Absent, Stored, AreOf, Opens}
use Rattle.bao_decode.specs.Opened.{IsUnread}

-- they are the file's, where nothing was read yet
pub unread_of_file : (state : FileState) (contents remaining : Option (List ℕ)) (bytes : List ℕ) → Opens state contents remaining
    → IsUnread contents remaining bytes → AreBytes bytes → AreOf state bytes
unread_of_file Unknown contents remaining bytes opens unread are = are
unread_of_file Absent contents remaining bytes opens unread are = absurd opens
unread_of_file (Stored s) contents remaining bytes opens unread are =
    subst (λ (known : Option (List ℕ)). IsUnread known remaining bytes) opens.0 unread opens.1

-- the contents, or what is left to be read, are all of it
pub unread_of_contents : (contents remaining : Option (List ℕ)) (bytes : List ℕ) → IfSome contents (λ s. bytes ≡ s) → IsUnread contents remaining bytes
unread_of_contents None remaining bytes known = tt
unread_of_contents (Some s) remaining bytes known = λ _. known

pub unread_of_remaining : (contents remaining : Option (List ℕ)) (bytes : List ℕ) → IfSome remaining (λ s. bytes ≡ s) → IsUnread contents remaining bytes
unread_of_remaining None remaining bytes known = tt
unread_of_remaining (Some s) remaining bytes known = λ same. subst (λ (left : Option (List ℕ)). IfSome left (λ t. bytes ≡ t)) same known

-- a known file was opened with its contents
pub contents_of_file : (state : FileState) (contents remaining : Option (List ℕ)) (bytes : List ℕ) → state ≡ Stored bytes → Opens state contents remaining → contents ≡ Some bytes
contents_of_file state contents remaining bytes is opens =
    let stored : Opens (Stored bytes) contents remaining = subst (λ (s : FileState). Opens s contents remaining) is opens in stored.0

pub is_some : (contents : Option (List ℕ)) (bytes : List ℕ) → contents ≡ Some bytes → IsSome contents
is_some contents bytes is = subst (λ (c : Option (List ℕ)). IsSome c) (sym is) refl

-- the bytes of a known file
pub stored_is : (state : FileState) (text bytes : List ℕ) → state ≡ Stored bytes → AreOf state text → text ≡ bytes
stored_is state text bytes is are = subst (λ (s : FileState). AreOf s text) is are
