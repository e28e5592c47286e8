-- What an arriving outboard encoding is checked against, and the bytes so far.
use Rattle.std.specs.Prelude.{◌≡◌, ℕ, List}
use Rattle.b3tree.specs.declared.mode.Mode.{Mode}
use Rattle.bao_check.specs.declared.feed.OutboardFeed.{OutboardFeed}

abbrev pub feed_mode : OutboardFeed → Mode
feed_mode feed = feed.mode

-- the root under which it is checked, 32 bytes
abbrev pub feed_root : OutboardFeed → List ℕ
feed_root feed = feed.root.0

-- the bytes so far
abbrev pub feed_text : OutboardFeed → List ℕ
feed_text feed = feed.text.items

-- these are the bytes so far of an outboard encoding that is checked under the root in the mode
pub record IsFeed (feed : OutboardFeed) (mode : Mode) (root text : List ℕ) : Type 0 where
  pub mode_is : feed_mode feed ≡ mode
  pub root_is : feed_root feed ≡ root
  pub text_is : feed_text feed ≡ text
