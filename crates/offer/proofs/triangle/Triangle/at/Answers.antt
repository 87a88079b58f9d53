use Rattle.std.proofs.Common.{arith}
use Rattle.offer.proofs.Places.{place_within}
use Rattle.offer.proofs.triangle.Triangle.at.Goals as goal

pub bounds-self-k : goal.bounds-self-k
bounds-self-k c = omega (arith, place_within c.args.self.now.columns c.args.k c.args.j (omega arith) (omega arith))
