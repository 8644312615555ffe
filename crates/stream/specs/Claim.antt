-- Any input, cut anyhow: what is written for all chunks and the end of input is the output of the whole input.
use Rattle.std.specs.Prelude.{◌≡◌, List, [], ◌∷◌, ◌++◌, ℕ}
use Rattle.session.specs.Session.{Controller, none}
use Rattle.stream.specs.Output.{output_of}
use Rattle.stream.specs.Stream.{stream, stream_of, feed_of, last_printed}

-- a feed for each chunk, each with its own bytes, and the end of input
unfoldable pub fed_all : Controller → List ℕ → List (List ℕ) → List ℕ
fed_all c held [] = last_printed c held
fed_all c held (k ∷ ks) =
    (feed_of (stream c held []) k).written ++ fed_all (feed_of (stream c held []) k).controller (feed_of (stream c held []) k).held ks

abbrev pub joined : List (List ℕ) → List ℕ
joined [] = []
joined (k ∷ ks) = k ++ joined ks

pub record Claim : Type 0 where
  -- a chunk in two parts is the chunk
  pub parts : (c : Controller) (held written a b : List ℕ) → feed_of (stream c held written) (a ++ b) ≡ feed_of (feed_of (stream c held written) a) b
  -- after any text so far: the answers to its ended lines
  pub so_far : (text : List ℕ) → feed_of (stream none [] []) text ≡ stream_of text
  -- any input, cut anyhow
  pub whole : (chunks : List (List ℕ)) → fed_all none [] chunks ≡ output_of (joined chunks)
