-- Every image, right or damaged, is one of a session that has what the types of its fields say. Assumes nothing.
use Rattle.std.specs.Prelude.{ℕ, ◌+◌, ◌≤◌, ◌<◌, ◌^◌, List, ◌≡◌, refl, length, drop}
use Rattle.std.proofs.Common.{subst, arith, lit<, length-drop, length-take-le}
use Rattle.wire.specs.Wire.{Bytes}
use Rattle.wire.proofs.laws.Wire.{be_fits, bytes_take, bytes_drop}
use Rattle.links.specs.Typed.{TypedRecord}
use Rattle.layout.specs.Layout.{image_length}
use Rattle.image.specs.Image.{part_at, number_at, caps_in, throttles_in, logs_in, deadman_in, areas_in, record_in, worked_in, timer_in, head_in, session_in, session_of}
use Rattle.image.proofs.laws.Image.{Typed}

module _ (b : List ℕ) (bytes : Bytes b) (long : length b ≡ image_length) where
  part_long : (n at : ℕ) → at + n ≤ image_length → length (part_at n at b) ≡ n
  part_long n at h = length-take-le n (drop at b) (simp length-drop (omega arith))

  fits : (n at : ℕ) → at + n ≤ image_length → number_at n at b < 256 ^ n
  fits n at h = subst (λ (k : ℕ). number_at n at b < 256 ^ k) (part_long n at h) (be_fits (part_at n at b) (bytes_take n (drop at b) (bytes_drop at b bytes)))

  record_typed : TypedRecord (record_in b)
  unfolding record_in caps_in throttles_in logs_in deadman_in areas_in
  record_typed = record {
    logs = refl;
    thermal = part_long 9 172 (lit< tt);
    sets = part_long 160 10 (lit< tt);
    present = fits 2 8 (lit< tt);
    caps = record { min = fits 2 2 (lit< tt); max = fits 2 4 (lit< tt); over = fits 2 6 (lit< tt) };
    user = fits 2 170 (lit< tt);
    mask = fits 4 193 (lit< tt);
    time = fits 8 198 (lit< tt);
    ffdc = record { address = fits 8 206 (lit< tt); size = fits 4 214 (lit< tt) };
    pass = record { address = fits 8 218 (lit< tt); size = fits 4 226 (lit< tt) };
  }

  pub typed_image : Typed (session_of b)
  unfolding session_of session_in head_in worked_in timer_in
  typed_image = record {
    session = record {
      held = record_typed;
      journal = part_long 2048 239 (lit< tt);
      next = fits 2 235 (lit< tt);
      used = fits 2 237 (lit< tt);
      redo = part_long 2048 2289 (lit< tt);
      ahead = fits 2 2287 (lit< tt);
      marks = part_long 64 4337 (lit< tt);
      timer = fits 8 4402 (lit< tt);
    };
    limit = fits 2 230 (lit< tt);
  }
