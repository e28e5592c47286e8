use Rattle.determined_texts.proofs.WholeEncodings.{blob_hash, text_is}
use Rattle.determined_texts.proofs.whole.accepted_whole_has_the_hash.Goals as goal

pub returns : goal.returns
returns c mode root text are key size accepted = (text_is mode root text are key size accepted, blob_hash mode root text are key size accepted)
