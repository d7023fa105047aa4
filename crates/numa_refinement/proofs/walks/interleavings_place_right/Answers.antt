use Rattle.numa_refinement.proofs.Rightly.{win-right, find-right, end-right}
use Rattle.numa_refinement.proofs.walks.interleavings_place_right.Goals as goal

pub returns-clause-searches : goal.returns-clause-searches
returns-clause-searches c s first pools done id f h = (h.1.0.0, h.1.0.1)

pub returns-clause-won : goal.returns-clause-won
returns-clause-won c s first pools done id f few some_worker h frame_search busy =
    win-right s few some_worker first pools done id f h frame_search busy

pub returns-clause-found : goal.returns-clause-found
returns-clause-found c s first pools done id f few some_worker h frame_search busy =
    find-right s few some_worker first pools done id f h frame_search busy

pub returns-clause-exhausted : goal.returns-clause-exhausted
returns-clause-exhausted c s first pools done id e frame_search few some_worker h busy request page
    full = (end-right s few some_worker first pools done id e frame_search h busy full).0 request
    page

pub returns-clause-full : goal.returns-clause-full
returns-clause-full c s first pools done id e frame_search few some_worker h busy node full =
    (end-right s few some_worker first pools done id e frame_search h busy full).1 node
