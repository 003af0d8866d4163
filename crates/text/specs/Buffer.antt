-- What stands in the middle of a buffer, moved to its front. To believe: moved_to_front.
use Rattle.std.specs.Prelude.{ℕ, ◌-◌, List, take, drop}
use Rattle.bits.specs.Put.{put}

-- the bytes from index from up to index to, as far as there are any, over the front
unfoldable pub moved_to_front : ℕ → ℕ → List ℕ → List ℕ
moved_to_front from to buf = put 0 (take (to - from) (drop from buf)) buf
