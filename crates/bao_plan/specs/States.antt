-- What a plan knows: which chunks are lacking, and of each holder what it gave falsely, what it lacks, what it is asked for
-- right now, and whether it is to be left alone.
use Rattle.std.specs.Prelude.{ℕ, ◌-◌, ◌/◌, nat_le, nat_lt, Bool, false, not, ◌&&◌, ◌||◌}
use Rattle.bao_plan.specs.declared.policy.Policy.{Policy}
use Rattle.bao_plan.specs.Sets.{any_below}

pub record HolderState : Type 0 where
  -- the chunks that it gave falsely
  pub refused : ℕ → Bool
  -- the chunks that it said it lacks
  pub absent : ℕ → Bool
  -- the chunks of its requests under way
  pub asked : ℕ → Bool
  -- its failures since it last gave a chunk that was lacking
  pub in_row : ℕ
  -- the moment before which it isn't asked
  pub later : ℕ
  -- it is asked only for what no holder of a lower rank may have
  pub rank : ℕ

pub record State : Type 0 where
  pub policy : Policy
  -- how many chunks the blob has
  pub chunks : ℕ
  -- only chunks below it are asked for
  pub end : ℕ
  -- the chunks that are lacking
  pub is_open : ℕ → Bool
  -- when chunks of a unit of 1,024 were last asked for
  pub since : ℕ → ℕ
  -- how many holders there are
  pub count : ℕ
  pub holder : ℕ → HolderState

-- a holder of which nothing is known: it may have all
abbrev pub unknown : HolderState
unknown = record { refused = λ c. false; absent = λ c. false; asked = λ c. false; in_row = 0; later = 0; rank = 0 }

-- all is lacking, and there are no holders
abbrev pub start : Policy → ℕ → State
start policy chunks = record { policy = policy; chunks = chunks; end = chunks; is_open = λ c. nat_lt c chunks; since = λ u. 0; count = 0; holder = λ h. unknown }

abbrev pub is_left_out : Policy → HolderState → Bool
is_left_out policy x = nat_le policy.faults x.in_row

-- whether it may have the chunk, as far as is known
abbrev pub may_have : HolderState → ℕ → Bool
may_have x c = not (x.refused c) && not (x.absent c)

-- whether the chunk is lacking and the holder may have it
abbrev pub is_undecided : State → ℕ → ℕ → Bool
is_undecided s h c = s.is_open c && may_have (s.holder h) c

-- whether the holder could be asked for the chunk, now or later
abbrev pub is_wanted : State → ℕ → ℕ → Bool
is_wanted s h c = is_undecided s h c && not ((s.holder h).asked c) && nat_lt c s.end

-- whether some holder is asked for the chunk
abbrev pub is_under_way : State → ℕ → Bool
is_under_way s c = any_below s.count (λ k. (s.holder k).asked c)

-- whether who was asked last for chunks of the chunk's unit has had his time
abbrev pub is_late : State → ℕ → ℕ → Bool
is_late s now c = nat_le s.policy.patience (now - s.since (c / 1024))

-- whether it is of a lower rank than this, and may be asked now
abbrev pub is_better : Policy → ℕ → ℕ → HolderState → Bool
is_better policy now rank x = nat_lt x.rank rank && not (is_left_out policy x) && nat_le x.later now

-- whether such a holder may have the chunk
abbrev pub has_better : State → ℕ → ℕ → ℕ → Bool
has_better s rank now c = any_below s.count (λ k. is_better s.policy now rank (s.holder k) && may_have (s.holder k) c)

-- whether the holder is to be asked for the chunk now, also for one that another holder is slow to give where that is allowed
abbrev pub is_ready : State → ℕ → ℕ → Bool → ℕ → Bool
is_ready s h now overtakes c =
    is_wanted s h c && (not (is_under_way s c) || (overtakes && is_late s now c)) && not (has_better s (s.holder h).rank now c)
