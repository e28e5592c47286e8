-- What a worker's report gains, from one seat to the next.
use Rattle.gather.proofs.Common.{◌≡◌, ◌⊎◌, ℕ, zero, suc, ◌+◌, ◌<◌, ◌≤◌, List, [], ◌∷◌, length, get_or, set, None, Some, slice_get, true, Bool, IsTrue, refl, sym, ap, subst, ◌∙◌, length-set, arith, inl, inr, slice_get-get_or, sum_by, sum_by-set, CheckFault, Short, Mismatch, Trailing, Memory, Reader, Fixed, Piece}
use Rattle.holders.specs.declared.holder.HolderFault.{HolderFault}
use Rattle.holders.specs.declared.holder.HolderFault.TheVariants.{Device}
use Rattle.holders.specs.declared.holder.HolderFault.TheVariants as unfetched
use Rattle.gather.specs.declared.report.Report.{Report}
use Rattle.gather.proofs.Serving.{memory_counts}
use Rattle.gather.specs.Counts.{FailsNoLess, Fits, Goes, HasFailedSince, IsAnswered, Reports, asked_once, checked_once, failed_once, lost_once, memory_once, plus, refused_once}
use Rattle.holders.specs.Holders.{AreLater, GivesNoMore, IsGiven, IsHanded, IsIt, IsNone}
use Rattle.holders.specs.Blobs.{EndsTooFar, IsTooLarge}

-- what stands in a list of which an element was set
set_there : {H : Type 0} (xs : List H) (i j : ℕ) (y h : H) → slice_get (set xs i y) j ≡ Some h → (h ≡ y) ⊎ (slice_get xs j ≡ Some h)
set_there [] i j y h e = inr e
set_there (x ∷ xs) zero zero y h e = inl (let same : Some y ≡ Some h = e in cc)
set_there (x ∷ xs) zero (suc j) y h e = inr e
set_there (x ∷ xs) (suc i) zero y h e = inr e
set_there (x ∷ xs) (suc i) (suc j) y h e = set_there xs i j y h e

later_there : {H : Type 0} (gives : H → ℕ → ℕ → List ℕ → Type 0) (xs : List H) (i : ℕ) (x y : H) → GivesNoMore gives (get_or xs i x) y → (place : ℕ) (holder : H)
    → slice_get xs place ≡ Some holder → (later : H) × (slice_get (set xs i y) place ≡ Some later) × GivesNoMore gives holder later
later_there gives [] i x y no_more place holder e = let no : None ≡ Some holder = e in cc
later_there gives (a ∷ xs) zero x y no_more zero holder e =
    let same : a ≡ holder = cc in (y, refl, subst (λ h. GivesNoMore gives h y) same no_more)
later_there gives (a ∷ xs) zero x y no_more (suc place) holder e = (holder, e, λ start len text is. is)
later_there gives (a ∷ xs) (suc i) x y no_more zero holder e = (holder, e, λ start len text is. is)
later_there gives (a ∷ xs) (suc i) x y no_more (suc place) holder e = later_there gives xs i x y no_more place holder e

-- one of the holders was asked, none, or some after others
pub later_one : {H : Type 0} (gives : H → ℕ → ℕ → List ℕ → Type 0) (xs : List H) (i : ℕ) (x y : H) → GivesNoMore gives (get_or xs i x) y → AreLater gives xs (set xs i y)
later_one gives xs i x y no_more = record { len = length-set xs i y; each = later_there gives xs i x y no_more }

pub later_none : {H : Type 0} (gives : H → ℕ → ℕ → List ℕ → Type 0) (xs : List H) → AreLater gives xs xs
later_none gives xs = record { len = refl; each = λ place holder e. (holder, e, λ start len text is. is) }

pub later_then : {H : Type 0} (gives : H → ℕ → ℕ → List ℕ → Type 0) (xs ys zs : List H) → AreLater gives xs ys → AreLater gives ys zs → AreLater gives xs zs
later_then gives xs ys zs first second = record {
  len = second.len ∙ first.len;
  each = λ place holder e.
      let then = first.each place holder e in
      let last = second.each place then.0 then.1 in
      (last.0, last.1, λ start len text is. then.2 start len text (last.2 start len text is));
}

-- what a holder gives is handed over by the holders
pub handed_here : {H : Type 0} (gives : H → ℕ → ℕ → List ℕ → Type 0) (xs : List H) (i : ℕ) (x : H) → i < length xs → (piece : Piece) → IsGiven gives (get_or xs i x) piece
    → IsHanded gives xs piece
handed_here gives xs i x below piece is = record { place = i; holder = get_or xs i x; there = slice_get-get_or xs i x below; given = is }

-- what is handed over is handed over by more
pub large_wider : (handed wider : Piece → Type 0) → ((piece : Piece) → handed piece → wider piece) → (fixed : Fixed) → IsTooLarge handed fixed → IsTooLarge wider fixed
large_wider handed wider more fixed large = record { piece = large.piece; from = more large.piece large.from; large = large.large }

-- a fetch without a text: its device failed, or memory was refused
pub lost_or_failed : {P : Type 0} (w x y : Report) (fault : HolderFault) → x ≡ asked_once w → y ≡ lost_once fault x → (fault ≡ Device → P) → HasFailedSince w y ⊎ P
lost_or_failed w x y Device asked told lost = inr (lost refl)
lost_or_failed w x y unfetched.Memory asked told lost = inl (memory_counts w x y (ap (λ (r : Report). r.memory) asked) told)

module _ {S : Type 0} (fixed_of : S → Fixed) (gained : (Piece → Type 0) → S → S → ℕ → ℕ → Type 0) (goes : Goes fixed_of gained) where
  -- nothing was called
  pub none_gained : (handed : Piece → Type 0) (s : S) → gained handed s s 0 0
  none_gained handed s = goes.wider IsNone handed (λ piece none. absurd none) s s 0 0 (goes.stays s)

  -- a call without a piece
  pub still_gained : (handed : Piece → Type 0) (s t : S) → gained IsNone s t 0 0 → gained handed s t 0 0
  still_gained handed s t still = goes.wider IsNone handed (λ piece none. absurd none) s t 0 0 still

  -- and one of a piece that was handed over
  pub it_gained : (handed : Piece → Type 0) (s t : S) (it : Piece) (n q : ℕ) → handed it → gained (IsIt it) s t n q → gained handed s t n q
  it_gained handed s t it n q is gains = goes.wider (IsIt it) handed (λ piece same. subst handed (sym same) is) s t n q gains

  -- one stretch of work, and then another
  pub onward : (r s t : S) (A B C : Piece → Type 0) (a b c : ℕ) (x y z : Report) → Reports fixed_of gained r s A B a b x y → Reports fixed_of gained s t B C b c y z
      → Reports fixed_of gained r t A C a c x z
  onward r s t A B C a b c x y z first second = record {
    chunks = first.chunks + second.chunks;
    parents = first.parents + second.parents;
    gains = goes.adds A r s t first.chunks second.chunks first.parents second.parents first.gains (goes.wider B A first.no_more s t second.chunks second.parents second.gains);
    no_more = λ piece is. first.no_more piece (second.no_more piece is);
    committed = omega (arith, first.committed, second.committed);
    stored = omega (arith, first.stored, second.stored);
    failed = omega (arith, first.failed, second.failed);
    answered = λ is. second.answered (first.answered is);
    no_less = (omega (arith, first.no_less.0, second.no_less.0), omega (arith, first.no_less.1, second.no_less.1));
    too_large = λ is. elim (second.too_large is) [
      | inl before ↦ first.too_large before
      | inr large ↦
          inr (subst (λ (fixed : Fixed). IsTooLarge A fixed) (goes.keeps A r s first.chunks first.parents first.gains) (large_wider B A first.no_more (fixed_of s) large))
    ];
    stays = λ is. second.stays (first.stays is);
  }

  -- calls of pieces that were handed over store so many chunks and parents, and nothing is asked
  pub stored_some : (s t : S) (A : Piece → Type 0) (a : ℕ) (x : Report) (chunks parents c q : ℕ) → gained A s t chunks parents → c ≡ plus x.committed chunks
      → q ≡ plus x.parents parents → Reports fixed_of gained s t A A a a x (record x { committed = c; parents = q })
  stored_some s t A a x chunks parents c q gains committed stored = record {
    chunks = chunks;
    parents = parents;
    gains = gains;
    no_more = λ piece is. is;
    committed = committed;
    stored = stored;
    failed = omega arith;
    answered = λ is. is;
    no_less = (omega arith, omega arith);
    too_large = λ is. inl is;
    stays = λ is. is;
  }

  -- a call that stores nothing and counts nothing
  pub counted_none : (s t : S) (A : Piece → Type 0) (a : ℕ) (x : Report) → gained A s t 0 0 → Fits x → Reports fixed_of gained s t A A a a x x
  counted_none s t A a x still fits = stored_some s t A a x 0 0 x.committed x.parents still (omega (arith, fits.0)) (omega (arith, fits.1))

  pub onward_none : (r s t : S) (A B : Piece → Type 0) (a b : ℕ) (x y : Report) → Reports fixed_of gained r s A B a b x y → gained IsNone s t 0 0
      → Reports fixed_of gained r t A B a b x y
  onward_none r s t A B a b x y first second =
      onward r s t A B B a b b x y y first
      (stored_some s t B b y 0 0 y.committed y.parents (still_gained B s t second) (omega (arith, first.committed)) (omega (arith, first.stored)))

  -- a fetch with a text, whose piece some call had, and no more; the piece may certify a length above what the store has room for
  fetch_told : (s t : S) (A B : Piece → Type 0) (a b : ℕ) (x y : Report) (large : Bool) → gained A s t 0 0 → ((piece : Piece) → B piece → A piece) → Fits x
      → (a ≤ b) × (y ≡ asked_once x) → (IsTrue large → IsTrue x.too_large ⊎ IsTooLarge A (fixed_of s))
      → (IsTrue x.too_large → IsTrue large) → Reports fixed_of gained s t A B a b x (record y { too_large = large })
  fetch_told s t A B a b x y large still no_more fits fetch told stays =
      subst (λ (z : Report). Reports fixed_of gained s t A B a b x (record z { too_large = large })) (sym fetch.1) (record {
        chunks = 0;
        parents = 0;
        gains = still;
        no_more = no_more;
        committed = omega (arith, fits.0);
        stored = omega (arith, fits.1);
        failed = omega (arith, fetch.0);
        answered = λ is. omega (arith, is);
        no_less = (omega arith, omega arith);
        too_large = told;
        stays = stays;
      })

  pub fetch_some : (s t : S) (A B : Piece → Type 0) (a b : ℕ) (x y : Report) → gained A s t 0 0 → ((piece : Piece) → B piece → A piece) → Fits x
      → (a ≤ b) × (y ≡ asked_once x) → Reports fixed_of gained s t A B a b x y
  fetch_some s t A B a b x y still no_more fits fetch =
      subst (λ (z : Report). Reports fixed_of gained s t A B a b x z) (sym fetch.1)
      (fetch_told s t A B a b x (asked_once x) x.too_large still no_more fits (fetch.0, refl) (λ is. inl is) (λ is. is))

  pub fetch_large : (s t : S) (A B : Piece → Type 0) (a b : ℕ) (x y : Report) (piece : Piece) → gained (IsIt piece) s t 0 0 → ((piece : Piece) → B piece → A piece) → Fits x
      → (a ≤ b) × (y ≡ asked_once x) → A piece → EndsTooFar (fixed_of s) piece → Reports fixed_of gained s t A B a b x (record y { too_large = true })
  fetch_large s t A B a b x y piece still no_more fits fetch from large =
      fetch_told s t A B a b x y true (it_gained A s t piece 0 0 from still) no_more fits fetch (λ is. inr (record { piece = piece; from = from; large = large })) (λ is. refl)

  -- a refused growth is counted beside
  pub starved : (s t : S) (A B : Piece → Type 0) (a b : ℕ) (x y : Report) → Fits x → Reports fixed_of gained s t A B a b x y → Reports fixed_of gained s t A B a b x (memory_once y)
  starved s t A B a b x y fits one = record {
    chunks = one.chunks;
    parents = one.parents;
    gains = one.gains;
    no_more = one.no_more;
    committed = one.committed;
    stored = one.stored;
    failed = one.failed;
    answered = one.answered;
    no_less = (omega (arith, one.no_less.0, fits.2), omega (arith, one.no_less.1));
    too_large = one.too_large;
    stays = one.stays;
  }

  -- a fetch whose text a check refused for another cause than memory, or without one, as a device failed
  fetch_lost : (s : S) (A B : Piece → Type 0) (a b : ℕ) (x y : Report) → ((piece : Piece) → B piece → A piece) → Fits x
      → ((a ≤ b) × (y ≡ refused_once (asked_once x))) ⊎ ((a < b) × (y ≡ failed_once (asked_once x))) → Reports fixed_of gained s s A B a b x y
  fetch_lost s A B a b x y no_more fits is =
      let counts : (y.committed ≡ x.committed) × (y.parents ≡ x.parents) × (y.failed + a ≤ x.failed + b) × (IsAnswered x → IsAnswered y)
      × FailsNoLess x y × (y.too_large ≡ x.too_large) = elim is [
        | inl refused ↦ rw refused.1 (refl, refl, omega (arith, refused.0), λ told. omega (arith, told), (omega arith, omega arith), refl)
        | inr failed ↦ rw failed.1 (refl, refl, omega (arith, failed.0), λ told. omega (arith, told), (omega arith, omega (arith, fits.3)), refl)
      ] in
      record {
        chunks = 0;
        parents = 0;
        gains = none_gained A s;
        no_more = no_more;
        committed = omega (arith, counts.0, fits.0);
        stored = omega (arith, counts.1, fits.1);
        failed = counts.2;
        answered = counts.3;
        no_less = counts.4;
        too_large = λ large. inl (subst (λ (b : Bool). IsTrue b) counts.5 large);
        stays = subst (λ (b : Bool). IsTrue b) (sym counts.5);
      }

  -- a fetch without a text
  pub fetch_none : (s : S) (A B : Piece → Type 0) (a b : ℕ) (x y : Report) → ((piece : Piece) → B piece → A piece) → Fits x
      → ((a < b) × (y ≡ failed_once (asked_once x))) ⊎ ((a ≤ b) × (y ≡ memory_once (asked_once x))) → Reports fixed_of gained s s A B a b x y
  fetch_none s A B a b x y no_more fits (inl failed) = fetch_lost s A B a b x y no_more fits (inr failed)
  fetch_none s A B a b x y no_more fits (inr refused) = subst (λ (z : Report). Reports fixed_of gained s s A B a b x z) (sym refused.1)
      (starved s s A B a b x (asked_once x) fits (fetch_some s s A B a b x (asked_once x) (none_gained A s) no_more fits (refused.0, refl)))

  pub fetch_fault : (s : S) (A B : Piece → Type 0) (a b : ℕ) (x y z : Report) (fault : HolderFault) → ((piece : Piece) → B piece → A piece) → Fits x → y ≡ asked_once x
      → z ≡ lost_once fault y → a ≤ b → (fault ≡ Device → a < b) → Reports fixed_of gained s s A B a b x z
  fetch_fault s A B a b x y z Device no_more fits asked lost up more =
      fetch_none s A B a b x z no_more fits (inl (more refl, subst (λ (r : Report). z ≡ failed_once r) asked lost))
  fetch_fault s A B a b x y z unfetched.Memory no_more fits asked lost up more =
      fetch_none s A B a b x z no_more fits (inr (up, subst (λ (r : Report). z ≡ memory_once r) asked lost))

  -- a text that a check refused
  refused_some : (s : S) (A B : Piece → Type 0) (a b : ℕ) (x : Report) (fault : CheckFault) → ((piece : Piece) → B piece → A piece) → Fits x → a ≤ b
      → Reports fixed_of gained s s A B a b x (checked_once fault (asked_once x))
  refused_some s A B a b x (Short at) no_more fits up = fetch_lost s A B a b x _ no_more fits (inl (up, refl))
  refused_some s A B a b x (Mismatch at) no_more fits up = fetch_lost s A B a b x _ no_more fits (inl (up, refl))
  refused_some s A B a b x (Trailing at) no_more fits up = fetch_lost s A B a b x _ no_more fits (inl (up, refl))
  refused_some s A B a b x Memory no_more fits up = fetch_none s A B a b x _ no_more fits (inr (up, refl))
  refused_some s A B a b x Reader no_more fits up = fetch_lost s A B a b x _ no_more fits (inl (up, refl))

  pub refused_done : (s : S) (A B : Piece → Type 0) (a b : ℕ) (x y z : Report) (fault : CheckFault) → ((piece : Piece) → B piece → A piece) → Fits x
      → (a ≤ b) × (y ≡ asked_once x) → z ≡ checked_once fault y → Reports fixed_of gained s s A B a b x z
  refused_done s A B a b x y z fault no_more fits fetch is =
      let at_once : z ≡ checked_once fault (asked_once x) = subst (λ (r : Report). z ≡ checked_once fault r) fetch.1 is in
      subst (λ (r : Report). Reports fixed_of gained s s A B a b x r) (sym at_once) (refused_some s A B a b x fault no_more fits fetch.0)

  -- what is said of some pieces is so of more of them, with other counts of faults
  pub moved : (s t : S) (A B A' B' : Piece → Type 0) (a b a' b' : ℕ) (x y : Report) → ((piece : Piece) → A piece → A' piece) → ((piece : Piece) → B' piece → A' piece)
      → a' + b ≤ a + b' → Reports fixed_of gained s t A B a b x y → Reports fixed_of gained s t A' B' a' b' x y
  moved s t A B A' B' a b a' b' x y wide no_more counts one = record {
    chunks = one.chunks;
    parents = one.parents;
    gains = goes.wider A A' wide s t one.chunks one.parents one.gains;
    no_more = no_more;
    committed = one.committed;
    stored = one.stored;
    failed = omega (arith, one.failed, counts);
    answered = one.answered;
    no_less = one.no_less;
    too_large = λ large. elim (one.too_large large) [ inl before ↦ inl before | inr is ↦ inr (large_wider A A' wide (fixed_of s) is) ];
    stays = one.stays;
  }

  -- what is said of one piece that was handed over is so beside some holders
  pub beside : (s t : S) (A : Piece → Type 0) (it : Piece) (a : ℕ) (x y : Report) → A it → Reports fixed_of gained s t (IsIt it) (IsIt it) 0 0 x y
      → Reports fixed_of gained s t A A a a x y
  beside s t A it a x y is = moved s t (IsIt it) (IsIt it) A A 0 0 a a x y (λ piece same. subst A (sym same) is) (λ piece from. from) (omega arith)

  -- what may be handed over afterwards is no more
  pub narrowed : (s t : S) (A B : Piece → Type 0) (a b : ℕ) (x y : Report) → ((piece : Piece) → B piece → A piece) → Reports fixed_of gained s t A A a b x y
      → Reports fixed_of gained s t A B a b x y
  narrowed s t A B a b x y no_more = moved s t A A A B a b a b x y (λ piece from. from) no_more (omega arith)

  -- one holder among others
  pub among_holders : {H : Type 0} (gives : H → ℕ → ℕ → List ℕ → Type 0) (count : H → ℕ) (s t : S) (xs : List H) (i : ℕ) (x y : H) (p q : Report) → i < length xs
      → Reports fixed_of gained s t (IsGiven gives (get_or xs i x)) (IsGiven gives y) (count (get_or xs i x)) (count y) p q
      → Reports fixed_of gained s t (IsHanded gives xs) (IsHanded gives (set xs i y)) (sum_by count xs) (sum_by count (set xs i y)) p q
  among_holders {H = H} gives count s t xs i x y p q below one =
      let sums : sum_by count (set xs i y) + count (get_or xs i x) ≡ sum_by count xs + count y = sum_by-set count xs i y x below in
      let here = handed_here gives xs i x below in
      moved s t _ _ _ _ _ _ _ _ p q here (λ piece is. elim (set_there xs i is.place y is.holder is.there) [
        | inl same ↦ here piece (one.no_more piece (subst (λ (h : H). IsGiven gives h piece) same is.given))
        | inr other ↦ record { place = is.place; holder = is.holder; there = other; given = is.given }
      ]) (omega (arith, sums)) one
