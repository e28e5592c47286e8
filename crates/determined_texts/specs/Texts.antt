-- What two checks, pieces, outlines and feeds have in common.
use Rattle.std.specs.Prelude.{Result, Ok, Err}
use Rattle.bao_check.specs.declared.checked.Checked.{Checked}
use Rattle.bao_check.specs.declared.fault.CheckFault.{CheckFault}
use Rattle.bao_check.specs.declared.outline.Outline.{Outline}
use Rattle.bao_check.specs.declared.feed.OutboardFeed.{OutboardFeed}
use Rattle.bao_check.specs.Checked.{IsPiece, piece_len, piece_mode, piece_root, piece_start, piece_text}
use Rattle.bao_check.specs.Outline.{IsOutline, outline_mode, outline_root, outline_text}
use Rattle.bao_check.specs.Streams.{IsOfBytes}
use Rattle.bao_check.specs.Feeds.{IsFeed, feed_mode, feed_root, feed_text}
use Rattle.determined_texts.specs.Agreeing.{AgreeUnless}

-- both are accepted, or both have one fault; out of memory and the reader's may come at any time
abbrev pub AgreeOfBytes : {X : Type 0} → (X → X → Type 0) → Result X CheckFault → Result X CheckFault → Type 0
AgreeOfBytes Same r s = AgreeUnless Same (λ e. ¬ IsOfBytes e) (λ f. ¬ IsOfBytes f) r s

-- the answer is the bytes' own, and not out of memory or the reader's
abbrev pub IsOwn : {X : Type 0} → Result X CheckFault → Type 0
IsOwn (Ok x) = Unit {0}
IsOwn (Err f) = IsOfBytes f

-- two pieces are of one encoding, as one slice, under one root and in one mode
abbrev pub SamePiece : Checked → Checked → Type 0
SamePiece a b = IsPiece a (piece_mode b) (piece_root b) (piece_start b) (piece_len b) (piece_text b)

abbrev pub SameOutline : Outline → Outline → Type 0
SameOutline a b = IsOutline a (outline_mode b) (outline_root b) (outline_text b)

-- of both has come the same, and they check it as the same
abbrev pub SameFeed : OutboardFeed → OutboardFeed → Type 0
SameFeed a b = IsFeed a (feed_mode b) (feed_root b) (feed_text b)
