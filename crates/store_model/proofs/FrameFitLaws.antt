-- Frames whose entries fit, and one more.
use Rattle.std.proofs.Common.{List, [], ◌∷◌, ◌++◌, length}
use Rattle.store_model.specs.Fits.{DoFit, DoesFrameFit}
use Rattle.store_model.specs.Frame.{Entry}
use Rattle.store_model.specs.Reading.{Found, with_frame}
use Rattle.store_model.specs.Stands.{found_at}

-- A frame that fits behind the others goes on with them.
pub DoFit-push : (opened : Found) (frames : List (List Entry)) (entries : List Entry) → DoFit opened frames → DoesFrameFit (found_at opened frames (length frames)) entries
    → DoFit opened (frames ++ entries ∷ [])
DoFit-push opened [] entries fit more = (more, tt)
DoFit-push opened (first ∷ frames) entries fit more = (fit.0, DoFit-push (with_frame opened first first) frames entries fit.1 more)
